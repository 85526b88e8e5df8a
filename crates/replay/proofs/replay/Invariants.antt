-- `replay::replay` is safe and ends: each record is longer than nothing. Assumes nothing.
use Rattle.std.specs.Prelude.{◌/◌, ◌≤◌, ◌-◌, length}
use Rattle.replay.proofs.replay.Given as goal

abbrev pub invariant-loop-at : goal.invariant-loop-at
invariant-loop-at g l = (l.calls ≤ l.at) × (l.agree ≤ l.calls) × (l.at ≤ 200000)

abbrev pub decreases-loop-at : goal.decreases-loop-at
decreases-loop-at g l = length l.bytes / 4 - l.at

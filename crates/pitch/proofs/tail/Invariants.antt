-- `pitch::tail` meets its contract. Assumes nothing.
use Rattle.std.specs.Prelude.{◌+◌, ◌≤◌, ◌≡◌}
use Rattle.rules.proofs.Common.{length}
use Rattle.rules.specs.Loop.{range}
use Rattle.pitch.specs.Autocorr.{lag_term}
use Rattle.pitch.proofs.tail.Given as goal

abbrev pub invariant-loop-i : goal.invariant-loop-i
invariant-loop-i l = (l.k + l.from ≤ l.i) × (l.i ≤ l.i-end) × (l.i-end ≡ length l.x)
    × (l.d ≡ range (l.k + l.from) l.i (lag_term l.x l.k) l.initial.d)

-- `finder::doubling::try_shorter` meets its contract. Assumes nothing.
use Rattle.std.specs.Prelude.{◌-◌, ◌≤◌, ◌≡◌}
use Rattle.rules.specs.Loop.{walk, go}
use Rattle.finder.specs.Doubling.{shorter_step}
use Rattle.finder.proofs.doubling.try_shorter.Given as goal

abbrev pub invariant-loop-i : goal.invariant-loop-i
invariant-loop-i l = (l.i ≤ 14) × (go l.best ≡ walk l.i (shorter_step l.x l.lookup l.a) l.initial.best)

abbrev pub decreases-loop-i : goal.decreases-loop-i
decreases-loop-i l = 14 - l.i

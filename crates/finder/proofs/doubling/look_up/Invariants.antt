-- `finder::doubling::look_up` meets its contract. Assumes nothing.
use Rattle.std.specs.Prelude.{◌-◌, ◌≤◌, ◌≡◌}
use Rattle.rules.proofs.Common.{length}
use Rattle.rules.specs.Loop.{range}
use Rattle.rules.proofs.Lists.{Filling}
use Rattle.finder.specs.Doubling.{yy_step, lookup_at}
use Rattle.finder.proofs.doubling.look_up.Given as goal

abbrev pub invariant-loop-i : goal.invariant-loop-i
invariant-loop-i l = (1 ≤ l.i) × (l.i ≤ 385) × (length l.initial.lookup ≡ 385) × (l.yy ≡ range 1 l.i (yy_step l.x) l.xx)
    × Filling (lookup_at l.x l.xx) l.initial.lookup l.i l.lookup

abbrev pub decreases-loop-i : goal.decreases-loop-i
decreases-loop-i l = 385 - l.i

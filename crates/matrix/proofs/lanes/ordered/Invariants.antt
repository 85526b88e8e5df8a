-- `matrix::lanes::ordered` meets its contract. Assumes nothing.
use Rattle.std.specs.Prelude.{◌-◌, ◌%◌, ◌≤◌, ◌++◌, ◌≡◌}
use Rattle.rules.proofs.Common.{length, drop}
use Rattle.rules.specs.F32.{at}
use Rattle.rules.specs.Tab.{tab}
use Rattle.matrix.specs.Private.{spot}
use Rattle.matrix.proofs.lanes.ordered.Given as goal

abbrev pub invariant-loop-a : goal.invariant-loop-a
invariant-loop-a l = (l.a ≤ length l.kept) × (l.a % 16 ≡ 0)
    × (l.out ≡ tab l.a (λ j. at l.kept (spot j)) ++ drop l.a l.initial.out)

abbrev pub decreases-loop-a : goal.decreases-loop-a
decreases-loop-a l = length l.kept - l.a

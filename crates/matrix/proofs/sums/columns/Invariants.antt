-- `matrix::sums::columns` meets its contract: two columns a turn, and one more where their number is odd.
-- Assumes nothing.
use Rattle.std.specs.Prelude.{◌-◌, ◌≤◌, ◌≡◌}
use Rattle.rules.proofs.Common.{length}
use Rattle.rules.specs.Loop.{loop}
use Rattle.matrix.specs.Sums.{mul_step}
use Rattle.matrix.proofs.sums.columns.Given as goal

abbrev pub invariant-loop-i : goal.invariant-loop-i
invariant-loop-i l = (l.i ≤ length l.input) × (length l.out ≡ length l.initial.out)
    × (l.out ≡ loop l.i (mul_step l.weights l.stride l.offset l.input) l.initial.out)

abbrev pub decreases-loop-i : goal.decreases-loop-i
decreases-loop-i l = length l.input - l.i

-- `matrix::lanes::sums` meets its contract. Assumes nothing.
use Rattle.std.specs.Prelude.{◌≤◌, ◌≡◌}
use Rattle.rules.proofs.Common.{length}
use Rattle.matrix.specs.Private.{sixteen_sums}
use Rattle.matrix.proofs.lanes.sums.Given as goal

abbrev pub invariant-loop-i : goal.invariant-loop-i
invariant-loop-i l = (l.i ≤ l.i-end) × (l.i-end ≡ length l.input)
    × (l.r ≡ sixteen_sums l.weights l.stride l.place l.input l.i l.initial.r)

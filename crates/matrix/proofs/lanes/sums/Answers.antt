-- `matrix::lanes::sums` meets its contract. Assumes nothing.
use Rattle.rules.proofs.Common.{refl}
use native.Mathlib.Omega.{arith}
use Rattle.rules.proofs.Numbers.{row_fits}
use Rattle.matrix.proofs.Neurons.{sums_none, sums_more, sums_ended}
use Rattle.matrix.proofs.lanes.sums.Goals as goal

pub loop-i-init : goal.loop-i-init
loop-i-init c = (omega arith, refl, sums_none _ _ _ _ _)

pub overflow_mul-row : goal.overflow_mul-row
overflow_mul-row c = omega (arith, row_fits c.loop-i-test.true c.args.stride)

pub overflow_add-row : goal.overflow_add-row
overflow_add-row c = omega (arith, row_fits c.loop-i-test.true c.args.stride)

pub step-r-requires : goal.step-r-requires
step-r-requires c = omega (arith, row_fits c.loop-i-test.true c.args.stride)

pub loop-i-preserved : goal.loop-i-preserved
loop-i-preserved c =
    let l = c.loop-i in
    (omega arith, l.invariant.1, sums_more _ _ _ _ _ _ l.invariant.2 c.step-r.ensures)

pub returns : goal.returns
returns c = sums_ended _ _ _ _ _ _ _ (omega arith) (omega arith) c.loop-i.invariant.2

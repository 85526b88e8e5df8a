-- `bands::scale_sums` meets its contract. Assumes nothing.
use Rattle.rules.proofs.Common.{ap, ◌∙◌}
use native.Mathlib.Omega.{arith}
use Rattle.rules.proofs.Lists.{filling_begin, filling_more, filling_ended, filling_ahead}
use Rattle.bands.specs.Dct.{dct_scaled}
use Rattle.bands.proofs.scale_sums.Goals as goal

pub loop-sum-init : goal.loop-sum-init
loop-sum-init c = filling_begin _ _

pub loop-sum-preserved : goal.loop-sum-preserved
loop-sum-preserved c =
    let l = c.loop-sum in
    let still = filling_ahead _ _ l.sum-index l.sum-index _ l.invariant (omega arith) in
    filling_more _ _ l.sum-index l.invariant (omega arith) (c.dct_scaled.ensures ∙ ap dct_scaled still)

pub returns : goal.returns
returns c = filling_ended _ _ _ 22 (omega arith) (omega arith) (omega arith) c.loop-sum.invariant

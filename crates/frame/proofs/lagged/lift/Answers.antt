-- `frame::lagged::lift` meets its contract. The loop's invariant: the first i energies are plusHundredth, and the
-- others are as they were. Assumes nothing.
use Rattle.rules.proofs.Common.{ap, Float}
use native.Mathlib.Omega.{arith}
use Rattle.rules.specs.F32.{◌⊕◌, f32}
use Rattle.rules.proofs.Lists.{filling_more, filling_ahead, fills}
use Rattle.frame.specs.Frame.{plus_hundredth}
use Rattle.frame.proofs.lagged.lift.Goals as goal

pub loop-energy-init : goal.loop-energy-init
loop-energy-init c = search fills

pub loop-energy-preserved : goal.loop-energy-preserved
loop-energy-preserved c =
    let l = c.loop-energy in
    let ahead = filling_ahead _ _ _ l.energy-index _ l.invariant.1 (omega arith) in
    (omega arith, filling_more _ _ _ l.invariant.1 (omega arith) (ap (λ (x : Float). f32 0x3C23D70A ⊕ x) ahead))

pub returns : goal.returns
unfolding plus_hundredth
returns c = search fills

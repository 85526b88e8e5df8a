-- `frame::lagged::scale` meets its contract. The loop's invariant: the first i places are scaled, and the others are as
-- they were. Assumes nothing.
use native.Mathlib.Omega.{arith}
use Rattle.rules.proofs.Lists.{filling_more, filling_ended, fills}
use Rattle.frame.specs.Heard.{scaled}
use Rattle.frame.proofs.lagged.scale.Goals as goal

pub loop-i-init : goal.loop-i-init
loop-i-init c = search fills

pub loop-i-preserved : goal.loop-i-preserved
loop-i-preserved c =
    let l = c.loop-i in
    (omega arith, filling_more _ _ _ l.invariant.1 (omega arith) (rw c.wnorm-norm.ensures))

pub returns : goal.returns
unfolding scaled
returns c =
    let l = c.loop-i in
    filling_ended _ _ l.i 961 (omega arith) (omega arith) (omega arith) l.invariant.1

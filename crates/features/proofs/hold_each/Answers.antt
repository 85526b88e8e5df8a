-- `features::hold_each` meets its contract. Assumes nothing.
use Rattle.rules.proofs.Common.{nan}
use native.Mathlib.Omega.{arith}
use Rattle.rules.proofs.Lists.{filling_begin, filling_more, filling_ended, filling_ahead}
use Rattle.features.specs.Gains.{gained}
use Rattle.features.proofs.hold_each.Goals as goal

pub loop-i-init : goal.loop-i-init
loop-i-init c = (filling_begin _ _, filling_begin _ _)

pub loop-i-preserved : goal.loop-i-preserved
loop-i-preserved c =
    let l = c.loop-i in
    let ahead-g = filling_ahead _ _ l.i l.i nan l.invariant.0 (omega arith) in
    let ahead-last = filling_ahead _ _ l.i l.i nan l.invariant.1 (omega arith) in
    let is = rw (ahead-g, ahead-last) at c.max-held.ensures in
    (filling_more _ _ l.i l.invariant.0 (omega arith) is, filling_more _ _ l.i l.invariant.1 (omega arith) is)

pub returns : goal.returns
unfolding gained
returns c =
    let l = c.loop-i in
    record {
      of_g = filling_ended _ _ _ 22 (omega arith) (omega arith) (omega arith) l.invariant.0;
      of_last = filling_ended _ _ _ 22 (omega arith) (omega arith) (omega arith) l.invariant.1;
    }

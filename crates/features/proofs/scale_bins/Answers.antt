-- `features::scale_bins` meets its contract. Assumes nothing.
use Rattle.rules.proofs.Common.{nan}
use native.Mathlib.Omega.{arith}
use Rattle.rules.proofs.Lists.{filling_begin, filling_more, filling_ended, filling_ahead}
use Rattle.features.specs.Pitch.{applied}
use Rattle.features.proofs.scale_bins.Goals as goal

pub loop-n-init : goal.loop-n-init
loop-n-init c = filling_begin _ _

pub loop-n-preserved : goal.loop-n-preserved
loop-n-preserved c =
    let l = c.loop-n in
    filling_more _ _ l.n l.invariant (omega arith) (rw (filling_ahead _ _ l.n l.n nan l.invariant (omega arith)))

pub returns : goal.returns
unfolding applied
returns c = filling_ended _ _ _ 961 (omega arith) (omega arith) (omega arith) c.loop-n.invariant

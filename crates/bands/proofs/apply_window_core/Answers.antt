-- `bands::apply_window_core` meets its contract. Assumes nothing.
use Rattle.rules.proofs.Common.{refl}
use native.Mathlib.Omega.{arith}
use Rattle.rules.proofs.Lists.{filling_begin, filling_more, filling_ended}
use Rattle.bands.specs.Windowed.{windowed_by}
use Rattle.bands.proofs.apply_window_core.Goals as goal

pub loop-i-init : goal.loop-i-init
loop-i-init c = filling_begin _ _

pub loop-i-preserved : goal.loop-i-preserved
loop-i-preserved c =
    let l = c.loop-i in
    filling_more _ _ l.i l.invariant (omega arith) refl

pub returns : goal.returns
unfolding windowed_by
returns c = filling_ended _ _ _ 960 (omega arith) (omega arith) (omega arith) c.loop-i.invariant

-- `pitch::halve` meets its contract. Assumes nothing.
use native.Mathlib.Omega.{arith}
use Rattle.rules.proofs.Lists.{filling_begin, filling_more, filling_ended}
use Rattle.pitch.specs.Downsample.{halved}
use Rattle.pitch.proofs.halve.Goals as goal

pub loop-i-init : goal.loop-i-init
loop-i-init c = filling_begin _ _

pub loop-i-preserved : goal.loop-i-preserved
loop-i-preserved c = filling_more _ _ _ c.loop-i.invariant (omega arith) c.halve_at.ensures

pub returns : goal.returns
unfolding halved
returns c = filling_ended _ _ _ 864 (omega arith) (omega arith) (omega arith) c.loop-i.invariant

-- `features::pitch::gains_of` meets its contract. Assumes nothing.
use native.Mathlib.Omega.{arith}
use Rattle.rules.proofs.Lists.{filling_begin, filling_more, filling_ended}
use Rattle.features.specs.Pitch.{pitch_gains}
use Rattle.features.proofs.pitch.gains_of.Goals as goal

pub loop-i-init : goal.loop-i-init
loop-i-init c = filling_begin _ _

pub loop-i-preserved : goal.loop-i-preserved
loop-i-preserved c = filling_more _ _ c.loop-i.i c.loop-i.invariant (omega arith) c.gain_of.ensures

pub returns : goal.returns
unfolding pitch_gains
returns c = filling_ended _ _ _ 22 (omega arith) (omega arith) (omega arith) c.loop-i.invariant

-- `pitch::fir5_core` meets its contract. Assumes nothing.
use Rattle.rules.proofs.Common.{refl, ap}
use native.Mathlib.Omega.{arith}
use Rattle.rules.proofs.Loops.{begin, more, ended}
use Rattle.pitch.specs.Fir.{Fir}
use Rattle.pitch.proofs.fir5_core.Goals as goal

pub loop-place-init : goal.loop-place-init
loop-place-init c = begin _ _

pub loop-place-preserved : goal.loop-place-preserved
loop-place-preserved c = more _ _ _ c.loop-place.invariant refl

pub returns : goal.returns
returns c = ap (λ (s : Fir). s.xs) (ended _ _ _ _ (omega arith) (omega arith) c.loop-place.invariant)

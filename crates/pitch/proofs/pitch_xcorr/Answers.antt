-- `pitch::pitch_xcorr` meets its contract. Assumes nothing.
use Rattle.std.specs.Prelude.{◌∷◌, ◌≡◌}
use Rattle.rules.proofs.Common.{List, [], refl, length, Float}
use native.Mathlib.Omega.{arith}
use Rattle.rules.specs.Tab.{tab}
use Rattle.rules.specs.Leaf.{done}
use Rattle.rules.proofs.Refusals.{leaves}
use Rattle.pitch.specs.Xcorr.{pitch_xcorr}
use Rattle.pitch.proofs.pitch_xcorr.Goals as goal

-- without a lag there is nothing to do
none : (xs ys xcorr : List Float) → length xcorr ≡ 0 → xcorr ≡ pitch_xcorr xs ys (length xcorr)
unfolding pitch_xcorr tab
none xs ys [] e = refl
none xs ys (c ∷ cs) e = absurd (omega arith)

pub returns-then-n-eq0 : goal.returns-then-n-eq0
returns-then-n-eq0 c =
    done (record { enough = λ h. omega arith; rounded = λ h. omega arith })
    (leaves (none _ _ _ c.if-n-eq0.true))

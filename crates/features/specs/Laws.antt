-- What is claimed of the test for silence and of remembered gains. The proofs are in proofs/InPaper, proofs/Remembered
-- and proofs/Order.
use Rattle.std.specs.Prelude.{◌<◌, ◌∷◌, ◌≡◌, Ok}
use Rattle.rules.specs.Common.{ℕ, true, false, cond, List, [], Float, le, is_nan}
use Rattle.rules.specs.F32.{at}
use Rattle.features.specs.Silence.{is_silent, sound_number, sound_values, sound_of}
use Rattle.features.specs.Gains.{six_tenths, gained}

-- In the words of document 01: listening to a frame returns 0. A heard frame comes with the sum of its energies, and a
-- silent one with no value.
abbrev pub SoundInPaper : Type 0
SoundInPaper = (e : Float) → (sound_number (Ok (sound_of e)) ≡ 0)
    × (sound_values (Ok (sound_of e)) ≡ cond (is_silent e) [] (e ∷ []))

-- For any gains g, even NaN: a remembered gain that is not NaN stays so, and falls to no less than 0.6 times itself.
abbrev pub Remembered : Type 0
Remembered =
    (g last : List Float) (i : ℕ) → i < 22 → is_nan (at last i) ≡ false
    → (is_nan (at (gained g last) i) ≡ false) × (le (six_tenths (at last i)) (at (gained g last) i) ≡ true)

-- Multiplying by 0.6 and rounding keeps the order of all floats, infinities included. (A NaN has no order to keep.)
abbrev pub SixTenthsMono : Type 0
SixTenthsMono = (x y : Float) → le x y ≡ true → le (six_tenths x) (six_tenths y) ≡ true

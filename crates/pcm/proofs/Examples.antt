-- Samples by the definition, computed: what lies beyond a sample's range is clipped, and a NaN and an infinity stay.
-- Assumes nothing.
use Rattle.std.specs.Prelude.{◌∷◌, ◌≡◌}
use Rattle.rules.proofs.Common.{[], refl, nan, inf, false}
use lib.Ieee.{of_bits, of_int, le, lt, eq, neg, mul, div, add}
use Rattle.rules.specs.F32.{f32}
use Rattle.rules.specs.Tab.{tab}
use Rattle.pcm.specs.Pcm.{signed, clipped, halves, number_at, unpacked}

-- floats, a full scale each: half; -1; one; two; 2 ^ 113, whose scaled value no f32 holds; an infinity; a NaN
floats : unpacked 7 (0 ∷ 0 ∷ 0 ∷ 63 ∷ 0 ∷ 0 ∷ 128 ∷ 191 ∷ 0 ∷ 0 ∷ 128 ∷ 63 ∷ 0 ∷ 0 ∷ 0 ∷ 64 ∷ 0 ∷ 0 ∷ 0 ∷ 120 ∷ 0 ∷ 0
    ∷ 128 ∷ 127 ∷ 0 ∷ 0 ∷ 192 ∷ 127 ∷ []) 32 1 0
    ≡ f32 0x46800000 ∷ neg (f32 0x47000000) ∷ f32 0x46FFFE00 ∷ f32 0x46FFFE00 ∷ f32 0x46FFFE00 ∷ inf false ∷ nan ∷ []
unfolding unpacked tab number_at clipped le lt eq neg mul of_bits
floats = refl

-- whole numbers of 24 and of 32 bits: one and a half; the highest; the lowest
of24 : unpacked 3 (128 ∷ 1 ∷ 0 ∷ 255 ∷ 255 ∷ 127 ∷ 0 ∷ 0 ∷ 128 ∷ []) 24 1 0
    ≡ f32 0x3FC00000 ∷ f32 0x46FFFE00 ∷ neg (f32 0x47000000) ∷ []
unfolding unpacked tab number_at signed clipped le lt eq neg div of_int of_bits
of24 = refl

of32 : unpacked 3 (0 ∷ 128 ∷ 1 ∷ 0 ∷ 255 ∷ 255 ∷ 255 ∷ 127 ∷ 0 ∷ 0 ∷ 0 ∷ 128 ∷ []) 33 1 0
    ≡ f32 0x3FC00000 ∷ f32 0x46FFFE00 ∷ neg (f32 0x47000000) ∷ []
unfolding unpacked tab number_at halves signed clipped le lt eq neg add div of_int of_bits
of32 = refl

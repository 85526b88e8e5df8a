-- `good_sample` at its ends and beyond, computed from the definition alone. `f32` takes the bit pattern of a number.
-- Assumes nothing.
use Rattle.std.specs.Prelude.{◌≡◌}
use Rattle.rules.proofs.Common.{true, false, refl, nan}
use lib.Ieee.{le, of_bits}
use Rattle.rules.specs.F32.{f32}
use Rattle.samples.specs.Samples.{good_sample}

pub ends :
    (good_sample (f32 0xC700_0000) ≡ true)  -- -32768
    × (good_sample (f32 0x46FF_FE00) ≡ true)  -- 32767
    × (good_sample (f32 0x8000_0000) ≡ true)  -- -0
    × (good_sample (f32 0xC700_0001) ≡ false)  -- the f32 next below -32768
    × (good_sample (f32 0x46FF_FE01) ≡ false)  -- the f32 next above 32767
    × (good_sample (f32 0xFF80_0000) ≡ false)  -- both infinities
    × (good_sample (f32 0x7F80_0000) ≡ false)
    × (good_sample nan ≡ false)
unfolding le of_bits
ends = (refl, refl, refl, refl, refl, refl, refl, refl)

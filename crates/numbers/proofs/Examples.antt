-- The definitions of specs/ at single numbers, computed by antt from the definitions alone. `f32` takes the bit pattern
-- of a number. Assumes nothing.
--     narrowings         ties and the ends of the range, f64 pattern to f32 pattern
--     filtered           three samples of the high-pass filter
--     picks              which of two numbers `max`, `min` and `clamp` give
use Rattle.std.specs.Prelude.{◌∷◌, ◌≡◌}
use Rattle.rules.proofs.Common.{ℕ, List, [], map, refl, Float, binary32, binary64, nan}
use lib.Ieee.{is_nan, lt, to_bits, of_bits, add, sub, mul}
use Rattle.rules.specs.F32.{f32}
use Rattle.rules.specs.Loop.{loop}
use Rattle.numbers.specs.declared.filter.Memory.{Memory}
use Rattle.numbers.specs.Filter.{high_pass, filter_step, filtered, memory_after, outputs}
use Rattle.numbers.specs.Larger.{larger, smaller, clamped}
use Rattle.numbers.specs.Narrowed.{narrowed}

abbrev narrow : ℕ → ℕ
narrow b = to_bits binary32 (narrowed (of_bits binary64 b))

-- 1 + 2 ^ -24 is a tie, and goes down to the even 1; the next up goes up; 1 + 3 * 2 ^ -24 is a tie, and goes up. Half
-- way from the largest to 2 ^ 128 is an infinity, and what is just below is not; 2 ^ -150 is 0, and what is just above
-- is the smallest; the largest subnormal is rounded up to the smallest normal
narrowings :
    map narrow
    (0x3ff0_0000_1000_0000
    ∷ 0x3ff0_0000_1000_0001
    ∷ 0x3ff0_0000_3000_0000
    ∷ 0x47ef_ffff_f000_0000
    ∷ 0x47ef_ffff_efff_ffff
    ∷ 0x3690_0000_0000_0000
    ∷ 0xb690_0000_0000_0001
    ∷ 0x380f_ffff_f000_0000
    ∷ [])
    ≡ (0x3f80_0000 ∷ 0x3f80_0001 ∷ 0x3f80_0002 ∷ 0x7f80_0000 ∷ 0x7f7f_ffff ∷ 0 ∷ 0x8000_0001 ∷ 0x0080_0000 ∷ [])
unfolding narrowed of_bits to_bits
narrowings = refl

-- 3, 5 and 7 from zero memories, as the Rust has them. With y rounded before it is fed back the last output would end
-- in C, and both memories would differ
abbrev start : Memory
start = record { m0 = f32 0; m1 = f32 0 }

abbrev samples : List Float
samples = f32 0x4040_0000 ∷ f32 0x40A0_0000 ∷ f32 0x40E0_0000 ∷ []

three_samples :
    (outputs high_pass start samples ≡ (f32 0x4040_0000 ∷ f32 0x409F_9D74 ∷ f32 0x40DE_F95B ∷ []))
    × (memory_after high_pass start samples ≡ record { m0 = f32 0xBD76_188C; m1 = f32 0x3D75_7C71 })
unfolding filtered filter_step loop narrowed of_bits add sub mul
three_samples = (refl, refl)

-- of 0 and -0 the larger is 0, and the other where one is a NaN; a NaN is not brought between two numbers
picks :
    (larger (f32 0x8000_0000) (f32 0) ≡ f32 0)
    × (larger (f32 0) (f32 0x8000_0000) ≡ f32 0)
    × (larger nan (f32 0) ≡ f32 0)
    × (smaller (f32 0x3F80_0000) nan ≡ f32 0x3F80_0000)
    × (clamped nan (f32 0) (f32 0x3F80_0000) ≡ nan)
unfolding is_nan lt of_bits
picks = (refl, refl, refl, refl, refl)

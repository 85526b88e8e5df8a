-- A model byte as the last digits of a large number, its top bit turned over, and that number less what then stands for
-- 0: computed for all 256. Assumes nothing.
use Rattle.std.specs.Prelude.{◌*◌, ◌<◌, ◌≡◌}
use Rattle.rules.proofs.Common.{ℕ, not, T, binary32}
use lib.Bits.{bit_xor}
use lib.Ieee.{of_bits, of_int, sub, add, neg, sum, round, units, odd, climb, span, size, nan_bits, of_fields}
use Rattle.rules.specs.F32.{f32, ◌⊖◌}
use Rattle.rules.proofs.Tests.{at_each}
use Rattle.floats.proofs.Same.{same, floats}
use Rattle.matrix.specs.Sums.{of_byte}

-- in the last eight digits
pub low_real : (b : ℕ) → b < 256 → T (not (nan_bits binary32 (bit_xor b 0x4B000080)))
unfolding nan_bits
low_real b h = at_each 256 (λ k. not (nan_bits binary32 (bit_xor k 0x4B000080))) tt b h

pub low_signed : (b : ℕ) → b < 256 → f32 (bit_xor b 0x4B000080) ⊖ f32 0x4B000080 ≡ of_byte b
unfolding sub add neg sum round units odd climb span size of_bits of_fields of_int
low_signed b h = floats _ _ (at_each 256 (λ k. same (f32 (bit_xor k 0x4B000080) ⊖ f32 0x4B000080) (of_byte k)) tt b h)

-- in the eight before them
pub high_real : (b : ℕ) → b < 256 → T (not (nan_bits binary32 (bit_xor (b * 256) 0x47008000)))
unfolding nan_bits
high_real b h = at_each 256 (λ k. not (nan_bits binary32 (bit_xor (k * 256) 0x47008000))) tt b h

pub high_signed : (b : ℕ) → b < 256 → f32 (bit_xor (b * 256) 0x47008000) ⊖ f32 0x47008000 ≡ of_byte b
unfolding sub add neg sum round units odd climb span size of_bits of_fields of_int
high_signed b h =
    floats _ _ (at_each 256 (λ k. same (f32 (bit_xor (k * 256) 0x47008000) ⊖ f32 0x47008000) (of_byte k)) tt b h)

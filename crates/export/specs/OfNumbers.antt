-- The filter's coefficients, which cross the boundary as a slice, as its memories do.
use Rattle.std.specs.Prelude.{◌≡◌}
use Rattle.rules.specs.Common.{ℕ, List, Float}
use Rattle.rules.specs.F32.{at}
use Rattle.numbers.specs.declared.filter.Biquad.{Biquad}

pub record BiquadFits (output memory coefficients input : ℕ) : Type 0 where
  pub memories : memory ≡ 2
  pub four : coefficients ≡ 4
  pub same : output ≡ input

abbrev pub biquad_of : List Float → Biquad
biquad_of xs = record { a0 = at xs 0; a1 = at xs 1; b0 = at xs 2; b1 = at xs 3 }

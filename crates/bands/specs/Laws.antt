-- What is claimed of the bands' results. The proofs are in proofs/Results, proofs/Norm and proofs/Scale; the window's
-- rule stands in WindowRule.
use Rattle.std.specs.Prelude.{◌≤◌, ◌<◌, ◌≡◌}
use Rattle.rules.specs.Common.{ℕ, List, length, Float, binary64, of_bits}
use Rattle.rules.specs.F32.{at, f32}
use Rattle.bands.specs.Bands.{band_corr, band_gain}
use Rattle.bands.specs.Dct.{dct_scale, dct_of}
use Rattle.bands.specs.Norm.{wnorm}
use Rattle.bands.specs.Windowed.{windowed}

pub record Lengths : Type 0 where
  pub corr : (x p : List Float) → length (band_corr x p) ≡ 22
  pub gain : (bands : List Float) → length (band_gain bands) ≡ 481
  pub dct : (x : List Float) → length (dct_of x) ≡ 22
  pub window : (x : List Float) → length (windowed x) ≡ 960

-- the gains of bins 400 to 480 are 0
abbrev pub GainEnds : Type 0
GainEnds = (bands : List Float) (k : ℕ) → 400 ≤ k → k < 481 → at (band_gain bands) k ≡ f32 0

-- the norm and the scale, by their bit patterns
abbrev pub NormIs : Type 0
NormIs = wnorm ≡ f32 0x3B088889

abbrev pub ScaleIs : Type 0
ScaleIs = dct_scale ≡ of_bits binary64 0x3FD34BF63D156826

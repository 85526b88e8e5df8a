-- `pitch_filter` and `apply_gain` of features.rs.
use Rattle.std.specs.Prelude.{◌≡◌}
use Rattle.rules.specs.Common.{ℕ, cond, List, Float, binary32, lt}
use Rattle.rules.specs.F32.{◌⊕◌, ◌⊖◌, ◌⊗◌, ◌⊘◌, at, f32, one}
use Rattle.rules.specs.Tab.{tab}
use Rattle.numbers.specs.Larger.{clamped}
use Rattle.numbers.specs.Root.{root}
use Rattle.bands.specs.Bands.{band_corr, band_gain}
use Rattle.rules.specs.Spectrum.{bin_of}

-- How much of a band is pitch. Rust: if exp > gain { 1.0 } else { exp_sq * (1.0 - g_sq) / (0.001 + g_sq * (1.0 -
-- exp_sq)) }.
unfoldable pub strength : Float → Float → Float
strength gain exp =
    let expSq = exp ⊗ exp in
    let gSq = gain ⊗ gain in
    cond (lt gain exp) one (expSq ⊗ (one ⊖ gSq) ⊘ (f32 0x3A83126F ⊕ gSq ⊗ (one ⊖ expSq)))

-- Rust: (ex / (1e-8 + e)).sqrt().
unfoldable pub ratio : Float → Float → Float
ratio ex e = root binary32 (ex ⊘ (f32 0x322BCC77 ⊕ e))

-- Rust: r.clamp(0.0, 1.0).sqrt() * (ex / (1e-8 + ep)).sqrt().
unfoldable pub band_pitch_gain : Float → Float → Float → Float → Float
band_pitch_gain gain exp ex ep = root binary32 (clamped (strength gain exp) (f32 0) one) ⊗ ratio ex ep

-- Rust: r[i] of each band, from the gain of the network, the correlation and both energies.
unfoldable pub pitch_gains : List Float → List Float → List Float → List Float → List Float
pitch_gains gains exp ex ep = tab 22 (λ i. band_pitch_gain (at gains i) (at exp i) (at ex i) (at ep i))

-- Rust: r[i] = (ex[i] / (1e-8 + new_e[i])).sqrt(). `after` is new_e.
unfoldable pub renormalised : List Float → List Float → List Float
renormalised ex after = tab 22 (λ i. ratio (at ex i) (at after i))

-- Rust: x += p * rf, bin by bin.
unfoldable pub pitch_added : List Float → List Float → List Float → List Float
pitch_added x p rf = tab 961 (λ n. at x n ⊕ at p n ⊗ at rf (bin_of n))

-- Rust: x *= gain, bin by bin.
unfoldable pub applied : List Float → List Float → List Float
applied x gains = tab 961 (λ n. at x n ⊗ at gains (bin_of n))

-- x with the energies of its bands brought back to ex.
unfoldable pub restored : List Float → List Float → List Float
restored x ex = applied x (band_gain (renormalised ex (band_corr x x)))

-- The whole filter: the lagged spectrum p is added to x in proportion to the pitch, and the energies of the bands are
-- restored.
unfoldable pub pitch_filtered : List Float → List Float → List Float → List Float → List Float → List Float → List Float
pitch_filtered x p gains exp ex ep = restored (pitch_added x p (band_gain (pitch_gains gains exp ex ep))) ex

-- All lengths fit.
pub record PitchFilterFits (x p gains exp ex ep : ℕ) : Type 0 where
  -- The spectrum.
  pub spectrum : x ≡ 961
  -- The lagged spectrum.
  pub lagged : p ≡ 961
  -- The gains of the network.
  pub wanted : gains ≡ 22
  -- The correlations.
  pub correlations : exp ≡ 22
  -- The energies of the spectrum.
  pub energies : ex ≡ 22
  -- The energies of the lagged spectrum.
  pub lagged_energies : ep ≡ 22

-- Both lengths fit.
pub record ApplyFits (x gains : ℕ) : Type 0 where
  -- The spectrum.
  pub spectrum : x ≡ 961
  -- A gain for each bin.
  pub bins : gains ≡ 481

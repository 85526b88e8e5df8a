-- `pitch_downsample` of pitch.rs: 1,728 numbers become 864, which are then filtered to flatten their spectrum.
use Rattle.std.specs.Prelude.{◌+◌, ◌-◌, ◌*◌, ◌∷◌, ◌≡◌}
use Rattle.rules.specs.Common.{ℕ, cond, List, [], eqb, pos, Float, binary32, of_int}
use Rattle.rules.specs.Loop.{loop}
use Rattle.rules.specs.Tab.{tab}
use Rattle.rules.specs.F32.{◌⊕◌, ◌⊖◌, ◌⊗◌, ◌⊘◌, at, f32, one, two}
use Rattle.pitch.specs.Autocorr.{celt_autocorr}
use Rattle.pitch.specs.Fir.{fir5}
use Rattle.pitch.specs.Lpc.{lpc_of}

-- Rust: x_lp[i] = ((x[2 * i - 1] + x[2 * i + 1]) / 2.0 + x[2 * i]) / 2.0, and x_lp[0] = (x[1] / 2.0 + x[0]) / 2.0.
abbrev pub halved_at : List Float → ℕ → Float
halved_at x i =
    cond (eqb i 0) ((at x 1 ⊘ two ⊕ at x 0) ⊘ two) (((at x (2 * i - 1) ⊕ at x (2 * i + 1)) ⊘ two ⊕ at x (2 * i)) ⊘ two)

-- All 864 of them.
unfoldable pub halved : List Float → List Float
halved x = tab 864 (halved_at x)

-- Rust: 0.008 * i as f32.
abbrev pub lag_weight : ℕ → Float
lag_weight i = f32 0x3C03126F ⊗ of_int binary32 (pos i)

-- The noise floor, ac[0] *= 1.0001, and the lag window, ac[i] -= ac[i] * (0.008 * i as f32) * (0.008 * i as f32).
abbrev pub floored_at : Float → ℕ → Float
floored_at r i = cond (eqb i 0) (r ⊗ f32 0x3F800347) (r ⊖ r ⊗ lag_weight i ⊗ lag_weight i)

-- Both for all five lags.
unfoldable pub floored : List Float → List Float
floored ac = tab 5 (λ i. floored_at (at ac i) i)

-- Rust: tmp *= 0.9.
abbrev pub fade_step : ℕ → Float → Float
fade_step i tmp = tmp ⊗ f32 0x3F666666

-- tmp after n turns of this, from 1.0.
unfoldable pub fade : ℕ → Float
unfolding loop
fade n = loop n fade_step one

-- Rust: tmp *= 0.9; lpc_coeffs[i] *= tmp.
unfoldable pub faded_lpc : List Float → List Float
faded_lpc lpc = tab 4 (λ i. at lpc i ⊗ fade (i + 1))

-- Rust: lpc_coeffs2, the coefficients of the filter with one zero more.
abbrev pub with_zero : List Float → List Float
with_zero lpc =
    let w = f32 0x3F4CCCCD in
    (at lpc 0 ⊕ w) ∷ (at lpc 1 ⊕ w ⊗ at lpc 0) ∷ (at lpc 2 ⊕ w ⊗ at lpc 1) ∷ (at lpc 3 ⊕ w ⊗ at lpc 2) ∷ w ⊗ at lpc 3
    ∷ []

-- The five coefficients of the flattening filter.
unfoldable pub coefficients : List Float → List Float
coefficients low = with_zero (faded_lpc (lpc_of 4 (floored (celt_autocorr low))))

-- The whole function.
unfoldable pub downsampled : List Float → List Float
downsampled x = fir5 (halved x) (coefficients (halved x))

-- The lengths fit.
pub record DownsampleFits (x low : ℕ) : Type 0 where
  -- The input has PITCH_BUF_SIZE numbers.
  pub whole : x ≡ 1728
  -- The output has half of that.
  pub half : low ≡ 864

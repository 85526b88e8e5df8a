-- `compute_band_corr` and `interp_band_gain` of lib.rs.
use Rattle.std.specs.Prelude.{◌+◌, ◌-◌, ◌*◌, ◌∷◌, ◌≡◌}
use Rattle.rules.specs.Common.{ℕ, List, [], map, set, pos, Float, binary32, of_int}
use Rattle.rules.specs.Loop.{loop}
use Rattle.rules.specs.F32.{◌⊕◌, ◌⊖◌, ◌⊗◌, ◌⊘◌, at, nat_at, one, two, zeros}
use Rattle.rules.specs.Spectrum.{re, im}

-- EBAND_5MS, and its entries << FRAME_SIZE_SHIFT: band i's bins start at edge i
abbrev eband5ms : List ℕ
eband5ms = 0 ∷ 1 ∷ 2 ∷ 3 ∷ 4 ∷ 5 ∷ 6 ∷ 7 ∷ 8 ∷ 10 ∷ 12 ∷ 14 ∷ 16 ∷ 20 ∷ 24 ∷ 28 ∷ 34 ∷ 40 ∷ 48 ∷ 60 ∷ 78 ∷ 100 ∷ []

unfoldable pub edges : List ℕ
edges = map (λ (e : ℕ). e * 4) eband5ms

unfoldable pub edge : ℕ → ℕ
edge i = nat_at edges i

-- for j in 0..band_size, of band i
abbrev pub in_band : (ℕ → ℕ → List Float → List Float) → ℕ → List Float → List Float
in_band step i out = loop (edge (i + 1) - edge i) (step i) out

-- out[i] += a
abbrev pub added : List Float → ℕ → Float → List Float
added out i a = set out i (at out i ⊕ a)

-- out[i] *= 2.0
abbrev pub doubled : ℕ → List Float → List Float
doubled i out = set out i (at out i ⊗ two)

-- frac = j as f32 / band_size as f32, and 1.0 - frac: the shares of bin j of band i that bands i + 1 and i have
unfoldable pub frac : ℕ → ℕ → Float
frac i j = of_int binary32 (pos j) ⊘ of_int binary32 (pos (edge (i + 1) - edge i))

abbrev pub rest : ℕ → ℕ → Float
rest i j = one ⊖ frac i j

-- ---- compute_band_corr

unfoldable pub bin_corr : List Float → List Float → ℕ → Float
bin_corr x p k = re x k ⊗ re p k ⊕ im x k ⊗ im p k

unfoldable pub corr_step : List Float → List Float → ℕ → ℕ → List Float → List Float
corr_step x p i j out =
    let corr = bin_corr x p (edge i + j) in
    added (added out i (rest i j ⊗ corr)) (i + 1) (frac i j ⊗ corr)

unfoldable pub band_corr : List Float → List Float → List Float
band_corr x p = doubled 21 (doubled 0 (loop 21 (in_band (corr_step x p)) (zeros 22)))

-- ---- interp_band_gain

unfoldable pub gain_step : List Float → ℕ → ℕ → List Float → List Float
gain_step bands i j out = set out (edge i + j) (rest i j ⊗ at bands i ⊕ frac i j ⊗ at bands (i + 1))

unfoldable pub band_gain : List Float → List Float
band_gain bands = loop 21 (in_band (gain_step bands)) (zeros 481)

-- the lengths
pub record BandFits (out x p : ℕ) : Type 0 where
  pub bands : out ≡ 22
  pub left : x ≡ 961
  pub right : p ≡ 961

pub record GainFits (out bands : ℕ) : Type 0 where
  pub bins : out ≡ 481
  pub from : bands ≡ 22

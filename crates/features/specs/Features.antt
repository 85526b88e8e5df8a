-- The 42 features of a heard frame, its normalised correlations and the new cepstral memory, from
-- `compute_frame_features` of features.rs. `logs` are the logarithms of 0.01 + ex, and `lag` is the Rust's pitch index.
use Rattle.std.specs.Prelude.{◌≤◌, ◌∷◌, ◌++◌, ◌≡◌}
use Rattle.rules.specs.Common.{ℕ, List, [], drop, Float, binary32}
use Rattle.rules.specs.F32.{◌⊕◌, ◌⊖◌, ◌⊗◌, ◌⊘◌, at, f32}
use Rattle.rules.specs.Place.{put}
use Rattle.rules.specs.Tab.{tab}
use Rattle.numbers.specs.Root.{root}
use Rattle.bands.specs.Bands.{band_corr}
use Rattle.bands.specs.Dct.{dct_of}
use Rattle.features.specs.Cepstra.{cepstrum, row, back, smoothed, slope, bend, deltas, variability}

-- Rust: exp[i] /= (0.001 + ex[i] * ep[i]).sqrt().
unfoldable pub normalised : List Float → List Float → List Float → List Float
normalised exp ex ep = tab 22 (λ i. at exp i ⊘ root binary32 (f32 0x3A83126F ⊕ at ex i ⊗ at ep i))

-- The correlation of x and p in each band, normalised by the energies of both.
unfoldable pub normalised_corr : List Float → List Float → List Float → List Float → List Float
normalised_corr x p ex ep = normalised (band_corr x p) ex ep

-- Rust: features[34..41]. These are the first six numbers of the DCT of exp, minus 1.3 and 0.9 for the first two, and
-- 0.01 * (lag - 300.0).
unfoldable pub pitch_features : List Float → Float → List Float
pitch_features exp lag =
    let tmp = dct_of exp in
    (at tmp 0 ⊖ f32 0x3FA66666)
    ∷ (at tmp 1 ⊖ f32 0x3F666666)
    ∷ at tmp 2
    ∷ at tmp 3
    ∷ at tmp 4
    ∷ at tmp 5
    ∷ (f32 0x3C23D70A ⊗ (lag ⊖ f32 0x43960000))
    ∷ []

-- The memory with the new cepstrum in row `index`.
unfoldable pub with_cepstrum : List Float → List Float → ℕ → List Float
with_cepstrum logs mem index = put (row index) mem (cepstrum logs)

-- All 42 features by their places: 0 to 5 are smoothed cepstra, 6 to 21 the rest of the cepstrum, 22 to 33 differences,
-- 34 to 40 come from the pitch, and 41 is the variability.
unfoldable pub laid : List Float → List Float → List Float → ℕ → List Float
laid ceps pitch mem index =
    let of : (Float → Float → Float → Float) → List Float = λ f. deltas f mem index (back index 1) (back index 2) in
    of smoothed ++ ceps ++ of slope ++ of bend ++ pitch ++ variability mem ∷ []

-- The features of a frame. Its cepstrum is remembered before the differences are taken.
unfoldable pub features_of : List Float → Float → List Float → List Float → ℕ → List Float
features_of exp lag logs mem index =
    laid (drop 6 (cepstrum logs)) (pitch_features exp lag) (with_cepstrum logs mem index) index

-- All lengths fit, and the index is that of a row.
pub record FeaturesFit (features exp mem index x p ex ep logs : ℕ) : Type 0 where
  -- NB_FEATURES.
  pub all : features ≡ 42
  -- NB_BANDS correlations.
  pub correlations : exp ≡ 22
  -- CEPS_MEM rows of NB_BANDS.
  pub rows : mem ≡ 176
  -- The index of a row.
  pub inside : index ≤ 7
  -- The spectrum: bin 0, and two numbers for each of the other bins.
  pub spectrum : x ≡ 961
  -- The lagged spectrum.
  pub lagged : p ≡ 961
  -- NB_BANDS energies of the spectrum.
  pub energies : ex ≡ 22
  -- NB_BANDS energies of the lagged spectrum.
  pub lagged_energies : ep ≡ 22
  -- NB_BANDS logarithms.
  pub logarithms : logs ≡ 22

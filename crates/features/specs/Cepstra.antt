-- Smoothed logarithms, the cepstral memory, and the features that are made of it, from `compute_frame_features` of
-- features.rs. The memory has 8 rows of 22 numbers.
use Rattle.std.specs.Prelude.{◌+◌, ◌-◌, ◌*◌}
use Rattle.rules.specs.Common.{ℕ, cond, List, eqb, ltb, set, Float, neg}
use Rattle.rules.specs.Loop.{loop}
use Rattle.rules.specs.F32.{◌⊕◌, ◌⊖◌, ◌⊗◌, ◌⊘◌, at, f32}
use Rattle.rules.specs.Place.{Place}
use Rattle.rules.specs.Tab.{tab}
use Rattle.numbers.specs.Larger.{larger, smaller}
use Rattle.bands.specs.Dct.{dct_of}

-- What goes from band to band. Both values start at -2.0.
pub record Floors : Type 0 where
  -- Rust: log_max, the largest smoothed logarithm so far.
  pub log_max : Float
  -- Rust: follow, which falls by 1.5 from band to band unless a logarithm is larger.
  pub follow : Float

-- The same from its two values.
abbrev pub floors_of : Float → Float → Floors
floors_of log_max follow = record { log_max = log_max; follow = follow }

-- Rust: ly[i] = logs[i].max(log_max - 7.0).max(follow - 1.5).
abbrev pub ly_of : Float → Floors → Float
ly_of log s = larger (larger log (s.log_max ⊖ f32 0x40E00000)) (s.follow ⊖ f32 0x3FC00000)

-- Rust: log_max = log_max.max(ly[i]); follow = (follow - 1.5).max(ly[i]).
unfoldable pub floor_step : List Float → ℕ → Floors → Floors
floor_step logs i s =
    let y = ly_of (at logs i) s in
    floors_of (larger s.log_max y) (larger (s.follow ⊖ f32 0x3FC00000) y)

-- The two values after i bands.
abbrev pub floors : List Float → ℕ → Floors
floors logs i = loop i (floor_step logs) (floors_of (neg (f32 0x40000000)) (neg (f32 0x40000000)))

-- Rust: ly, the smoothed logarithms: none is more than 7 below the largest before it, and from band to band they fall
-- by at most 1.5.
unfoldable pub follow_logs : List Float → List Float
follow_logs logs = tab 22 (λ i. ly_of (at logs i) (floors logs i))

-- Rust: features[i] -= v.
abbrev pub lessen : ℕ → Float → List Float → List Float
lessen i v features = set features i (at features i ⊖ v)

-- Rust: dct(features, ly); features[0] -= 12.0; features[1] -= 4.0.
unfoldable pub cepstrum : List Float → List Float
cepstrum logs = lessen 1 (f32 0x40800000) (lessen 0 (f32 0x41400000) (dct_of (follow_logs logs)))

-- The place of row k: cepstral_mem[k].
abbrev pub row : ℕ → Place
row k = record { at = k * 22; size = 22 }

-- One number of it: cepstral_mem[k][i].
abbrev pub cell : List Float → ℕ → ℕ → Float
cell mem k i = at mem (k * 22 + i)

-- The row k rows before this one; before row 0 comes row 7.
unfoldable pub back : ℕ → ℕ → ℕ
back index k = cond (ltb index k) (8 + index - k) (index - k)

-- Three cepstra at one place, the newest first: their sum, for features[i].
abbrev pub smoothed : Float → Float → Float → Float
smoothed ceps0 ceps1 ceps2 = ceps0 ⊕ ceps1 ⊕ ceps2

-- Their difference, for features[22 + i].
abbrev pub slope : Float → Float → Float → Float
slope ceps0 ceps1 ceps2 = ceps0 ⊖ ceps2

-- Their second difference, for features[28 + i].
abbrev pub bend : Float → Float → Float → Float
bend ceps0 ceps1 ceps2 = ceps0 ⊖ f32 0x40000000 ⊗ ceps1 ⊕ ceps2

-- One of these three at the first six places (NB_DELTA_CEPS) of three rows.
unfoldable pub deltas : (Float → Float → Float → Float) → List Float → ℕ → ℕ → ℕ → List Float
deltas of mem c0 c1 c2 = tab 6 (λ i. of (cell mem c0 i) (cell mem c1 i) (cell mem c2 i))

-- Rust: dist += tmp * tmp.
abbrev pub dist_step : List Float → ℕ → ℕ → ℕ → Float → Float
dist_step mem i j k dist = let tmp = cell mem i k ⊖ cell mem j k in dist ⊕ tmp ⊗ tmp

-- The squared distance of rows i and j.
unfoldable pub cepstral_distance : List Float → ℕ → ℕ → Float
cepstral_distance mem i j = loop 22 (dist_step mem i j) (f32 0)

-- Rust: if j != i { min_dist = min_dist.min(dist) }.
abbrev pub nearest_step : List Float → ℕ → ℕ → Float → Float
nearest_step mem i j least = cond (eqb j i) least (smaller least (cepstral_distance mem i j))

-- The smallest distance of row i from another row. It starts at 1e15.
unfoldable pub nearest : List Float → ℕ → Float
nearest mem i = loop 8 (nearest_step mem i) (f32 0x58635FA9)

-- Rust: spec_variability += min_dist.
abbrev pub variability_step : List Float → ℕ → Float → Float
variability_step mem i sum = sum ⊕ nearest mem i

-- How far apart the rows are: spec_variability / CEPS_MEM - 2.1.
unfoldable pub variability : List Float → Float
variability mem = loop 8 (variability_step mem) (f32 0) ⊘ f32 0x41000000 ⊖ f32 0x40066666

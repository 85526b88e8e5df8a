-- `find_best_pitch` of pitch.rs: of some lags, the two with the largest normalised correlation.
use Rattle.std.specs.Prelude.{◌+◌, ◌≤◌, Result, Ok, Err}
use Rattle.rules.specs.Common.{ℕ, cond, List, length, Float, lt, neg}
use Rattle.rules.specs.Loop.{loop}
use Rattle.rules.specs.F32.{◌⊕◌, ◌⊖◌, ◌⊗◌, at, f32, one}
use Rattle.rules.specs.declared.refusal.Refusal.{Refusal}
use Rattle.numbers.specs.Larger.{larger}
use Rattle.pitch_search.specs.declared.Pitches.{Pitches}
use Rattle.pitch_search.specs.declared.Search.{Search}

-- What the loop carries from lag to lag, from its seven values.
abbrev pub searched : Float → Float → Float → Float → ℕ → ℕ → Float → Search
searched bn sn bd sd bp sp norm =
    record {
      best_num = bn;
      second_best_num = sn;
      best_den = bd;
      second_best_den = sd;
      best_pitch = bp;
      second_best_pitch = sp;
      y_sq_norm = norm;
    }

-- Rust: y_sq_norm += y * y, for the numbers of ys[0..len].
abbrev pub norm_step : List Float → ℕ → Float → Float
norm_step ys i norm = norm ⊕ at ys i ⊗ at ys i

-- The energy at lag 0, which starts from 1.0.
abbrev pub start_norm : List Float → ℕ → Float
start_norm ys len = loop len (norm_step ys) one

-- Rust: if corr > 0.0 { .. }. Lag i becomes the best and the best becomes the second best; or lag i becomes the second
-- best; or nothing changes.
unfoldable pub considered : Float → ℕ → Search → Search
considered corr i s =
    let num = corr ⊗ corr in
    let norm = s.y_sq_norm in
    let isBest = searched num s.best_num norm s.best_den i s.best_pitch norm in
    let isSecond = searched s.best_num num s.best_den norm s.best_pitch i norm in
    cond (lt (f32 0) corr)
    (cond (lt (s.second_best_num ⊗ norm) (num ⊗ s.second_best_den))
    (cond (lt (s.best_num ⊗ norm) (num ⊗ s.best_den)) isBest isSecond) s)
    s

-- The energy at the next lag. Rust: y_sq_norm += ys[i + len] * ys[i + len] - ys[i] * ys[i]; y_sq_norm =
-- y_sq_norm.max(1.0).
unfoldable pub slid : List Float → ℕ → ℕ → Search → Search
slid ys len i s =
    searched s.best_num s.second_best_num s.best_den s.second_best_den s.best_pitch s.second_best_pitch
    (larger (s.y_sq_norm ⊕ (at ys (i + len) ⊗ at ys (i + len) ⊖ at ys i ⊗ at ys i)) one)

-- One turn of the loop.
abbrev pub pitch_step : List Float → List Float → ℕ → ℕ → Search → Search
pitch_step xcorr ys len i s = slid ys len i (considered (at xcorr i) i s)

-- The whole loop, over a correlation for each lag.
unfoldable pub best : List Float → List Float → ℕ → Search
best xcorr ys len =
    loop (length xcorr) (pitch_step xcorr ys len) (searched (neg one) (neg one) (f32 0) (f32 0) 0 1 (start_norm ys len))

-- Rust: (best_pitch, second_best_pitch).
abbrev pub best_of : List Float → List Float → ℕ → Result Pitches Refusal
best_of xcorr ys len =
    let s = best xcorr ys len in Ok (record { first = s.best_pitch; second = s.second_best_pitch })

-- The best lag in an answer, or 0 if it was refused.
abbrev pub first_of : Result Pitches Refusal → ℕ
first_of (Ok pitches) = pitches.first
first_of (Err refusal) = 0

-- The second best lag in an answer, or 0 if it was refused.
abbrev pub second_of : Result Pitches Refusal → ℕ
second_of (Ok pitches) = pitches.second
second_of (Err refusal) = 0

-- The lengths fit: `ys` is long enough for the last lag.
pub record BestFits (xcorr ys len : ℕ) : Type 0 where
  -- The last lag and `len` numbers after it are in `ys`.
  pub enough : xcorr + len ≤ ys

-- `pitch_xcorr` of pitch.rs, by the plain loop that its comment gives: for each lag, a sum in the order of the index.
use Rattle.std.specs.Prelude.{◌+◌, ◌-◌, ◌%◌, ◌≤◌, ◌<◌}
use Rattle.rules.specs.Common.{ℕ, cond, List, ltb, length, Float, neg}
use Rattle.rules.specs.Loop.{loop}
use Rattle.rules.specs.F32.{◌⊕◌, ◌⊗◌, at, f32}
use Rattle.rules.specs.Tab.{tab}

-- Rust: sum += xs[j] * ys[i + j].
abbrev pub term_step : List Float → List Float → ℕ → ℕ → Float → Float
term_step xs ys i j sum = sum ⊕ at xs j ⊗ at ys (i + j)

-- The sum at lag i, which starts from `zero`.
unfoldable pub corr : Float → List Float → List Float → ℕ → Float
corr zero xs ys i = loop (length xs) (term_step xs ys i) zero

-- How many of n lags the Rust computes four at a time.
abbrev pub whole_fours : ℕ → ℕ
whole_fours n = n - n % 4

-- The sum at lag i of n. It starts from +0.0 for the lags that go four at a time, and from -0.0 for the others, because
-- `Iterator::sum` starts from -0.0.
abbrev pub lag_of : List Float → List Float → ℕ → ℕ → Float
lag_of xs ys n i = corr (cond (ltb i (whole_fours n)) (f32 0) (neg (f32 0))) xs ys i

-- Rust: for i in 0..n { xcorr[i] = xs.iter().zip(&ys[i..]).map(|(&x, &y)| x * y).sum() }.
unfoldable pub pitch_xcorr : List Float → List Float → ℕ → List Float
pitch_xcorr xs ys n = tab n (lag_of xs ys n)

-- The lengths fit.
pub record XcorrFits (xs ys xcorr : ℕ) : Type 0 where
  -- ys is long enough for the last lag.
  pub enough : 0 < xcorr → xs + (xcorr - 1) ≤ ys
  -- It is also long enough for the Rust's chunks of four.
  pub rounded : 0 < xcorr → (xs - xs % 4) + (xcorr - xcorr % 4) ≤ ys

-- `celt_autocorr` of pitch.rs: the autocorrelation at the lags 0 to 4.
use Rattle.std.specs.Prelude.{◌+◌, ◌-◌, ◌≤◌, ◌≡◌}
use Rattle.rules.specs.Common.{ℕ, List, length, take, Float}
use Rattle.rules.specs.Loop.{range}
use Rattle.rules.specs.F32.{◌⊕◌, ◌⊗◌, at, f32}
use Rattle.rules.specs.Tab.{tab}
use Rattle.pitch.specs.Xcorr.{pitch_xcorr}

-- Rust: d += x[i] * x[i - k].
abbrev pub lag_term : List Float → ℕ → ℕ → Float → Float
lag_term x k i d = d ⊕ at x i ⊗ at x (i - k)

-- The products at lag k that `pitch_xcorr` left out: those from `from` on.
unfoldable pub tail_of : List Float → ℕ → ℕ → Float
tail_of x k from = range (k + from) (length x) (lag_term x k) (f32 0)

-- Rust: ac[k] += d.
abbrev pub add_tails : List Float → ℕ → List Float → List Float
add_tails x from ac = tab (length ac) (λ k. at ac k ⊕ tail_of x k from)

-- All five lags: first `pitch_xcorr`, and then the products that it left out.
unfoldable pub celt_autocorr : List Float → List Float
celt_autocorr x = let fast = length x - 4 in add_tails x fast (pitch_xcorr (take fast x) x 5)

-- The lengths fit.
pub record AutocorrFits (x ac : ℕ) : Type 0 where
  -- There is a place for each lag.
  pub lags : ac ≡ 5
  -- There are at least as many numbers as lags.
  pub enough : 5 ≤ x

-- For the contracts of private functions: the sums at some neighbouring lags, side by side.
use Rattle.std.specs.Prelude.{◌+◌, ◌++◌}
use Rattle.rules.specs.Common.{ℕ, List, length, take, drop, Float}
use Rattle.rules.specs.Loop.{loop}
use Rattle.rules.specs.F32.{◌⊕◌, ◌⊗◌, at, f32}
use Rattle.rules.specs.Tab.{tab}
use Rattle.pitch.specs.Xcorr.{term_step, corr}

-- Adds the next product to each of some sums.
abbrev pub with_products : List Float → Float → ℕ → List Float → List Float
with_products ys x p sums = tab (length sums) (λ k. at sums k ⊕ x ⊗ at ys (p + k))

-- The sum of the first j products at each of n lags from i on.
unfoldable pub lag_sums : List Float → List Float → ℕ → ℕ → ℕ → List Float
lag_sums xs ys j i n = tab n (λ k. loop j (term_step xs ys (i + k)) (f32 0))

-- The correlations at n lags from i on.
unfoldable pub lags_from : List Float → List Float → ℕ → ℕ → List Float
lags_from xs ys i n = tab n (λ k. corr (f32 0) xs ys (i + k))

-- Stores neighbouring numbers from place i on.
abbrev pub stored : List Float → ℕ → List Float → List Float
stored xs i v = take i xs ++ (v ++ drop (i + length v) xs)

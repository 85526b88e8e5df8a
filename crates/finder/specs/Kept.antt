-- A kept lag, or a kept period, as a whole number: the largest of 0 to 768 that is not above x; 0 where there is none,
-- and for a NaN.
use Rattle.rules.specs.Common.{ℕ, cond, pos, Float, binary32, of_int, le}
use Rattle.rules.specs.Loop.{range}

-- for k in 1..769 { if k as f32 <= x { lag = k; } }
abbrev pub lag_step : Float → ℕ → ℕ → ℕ
lag_step x k lag = cond (le (of_int binary32 (pos k)) x) k lag

unfoldable pub whole_lag : Float → ℕ
whole_lag x = range 1 769 (lag_step x) 0

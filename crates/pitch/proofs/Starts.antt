-- Where a lag's sum begins: at +0.0 among the fours, at -0.0 behind them. Assumes nothing.
use Rattle.std.specs.Prelude.{◌≤◌, ◌<◌, ◌≡◌}
use Rattle.rules.proofs.Common.{ℕ, List, Float, neg}
use borrow.Author.Tests.{lt-ltb, le-ltb}
use Rattle.rules.specs.F32.{f32}
use Rattle.pitch.specs.Xcorr.{corr, whole_fours, lag_of}

module _ (xs ys : List Float) (n i : ℕ) {v : Float} where
  pub by_fours : i < whole_fours n → v ≡ corr (f32 0) xs ys i → v ≡ lag_of xs ys n i
  by_fours h e = rw (lt-ltb _ _ h) e

  pub behind_fours : whole_fours n ≤ i → v ≡ corr (neg (f32 0)) xs ys i → v ≡ lag_of xs ys n i
  behind_fours h e = rw (le-ltb _ _ h) e

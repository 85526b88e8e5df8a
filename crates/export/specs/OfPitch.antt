-- The lengths of the leaves of `pitch` whose answer goes into a lent slice.
use Rattle.std.specs.Prelude.{◌≡◌}
use Rattle.rules.specs.Common.{ℕ}
use Rattle.pitch_search.specs.Inner.{InnerFits}
use Rattle.pitch_search.specs.Best.{BestFits}

pub record SumFits (sum xs ys n : ℕ) : Type 0 where
  pub one : sum ≡ 1
  pub inner : InnerFits xs ys n

pub record PitchesFit (pitches xcorr ys len : ℕ) : Type 0 where
  pub two : pitches ≡ 2
  pub enough : BestFits xcorr ys len

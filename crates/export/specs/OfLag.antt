-- The lengths of our own lag, whose answer goes into a lent slice.
use Rattle.std.specs.Prelude.{◌≡◌}
use Rattle.rules.specs.Common.{ℕ}

pub record LagFits (place mem : ℕ) : Type 0 where
  pub one : place ≡ 1
  pub whole : mem ≡ 1728

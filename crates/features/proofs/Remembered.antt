-- The two laws of remembered gains, for any gains g, NaN among them: no remembered gain becomes NaN, and each is at
-- least 0.6 of its predecessor. Assumes nothing.
use Rattle.std.specs.Prelude.{◌<◌, ◌≡◌}
use Rattle.rules.proofs.Common.{ℕ, true, false, List, Float, nan, le, is_nan}
use Rattle.rules.specs.F32.{at}
use Rattle.rules.proofs.Lists.{get_d_tab}
use Rattle.features.specs.Gains.{six_tenths, at_least, gained}
use Rattle.features.specs.Laws.{Remembered}
use Rattle.features.proofs.Order.{held_no_nan, larger_no_nan, larger_at_least}

module _ (g last : List Float) (i : ℕ) (band : i < 22) (number : is_nan (at last i) ≡ false) where
  is : at (gained g last) i ≡ at_least (at g i) (at last i)
  unfolding gained
  is = get_d_tab 22 (λ k. at_least (at g k) (at last k)) i nan band

  pub never_nan : is_nan (at (gained g last) i) ≡ false
  never_nan = rw is (larger_no_nan _ _ (held_no_nan _ number))

  pub at_least_held : le (six_tenths (at last i)) (at (gained g last) i) ≡ true
  at_least_held = rw is (larger_at_least _ _ (held_no_nan _ number))

pub remembered : Remembered
remembered g last i band number = (never_nan g last i band number, at_least_held g last i band number)

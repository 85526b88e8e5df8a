-- The window's rule, over whole numbers: entry i counts 2^-41, the unit of its smallest entry. `proofs/WindowRule.antt`
-- shows the claim.
use Rattle.std.specs.Prelude.{◌+◌, ◌-◌, ◌*◌, ◌/◌, ◌^◌, ◌≤◌, ◌<◌, ◌≡◌}
use Rattle.rules.specs.Common.{ℕ, true, false, List, map, Float, binary32, nan}
use Rattle.rules.specs.Common.{inf, fin, up, down, round}
use Rattle.rules.specs.F32.{nat_at}
use Rattle.bands.specs.Window.{window}

-- how many times 2^-41 a float is; 0 of what is negative or no number
unfoldable pub count : Float → ℕ
count nan = 0
count (inf s) = 0
count (fin true m e) = 0
count (fin false m e) = m * up e * 2 ^ 41 / down e

unfoldable pub counts : List ℕ
unfolding window count
counts = map count window

abbrev pub entry : ℕ → ℕ
entry i = nat_at counts i

abbrev pub squares : ℕ → ℕ
squares i = entry i * entry i + entry (479 - i) * entry (479 - i)

pub record Rule (i : ℕ) : Type 0 where
  pub mirror : entry i ≡ entry (959 - i)
  pub positive : 0 < entry i
  pub small : entry i ≤ 2 ^ 41
  pub rises : i < 479 → entry i ≤ entry (i + 1)
  pub near_above : i < 480 → squares i ≤ 2 ^ 82 + 2 ^ 59
  pub near_below : i < 480 → 2 ^ 82 ≤ squares i + 2 ^ 59

-- the claim: the rule holds at all 960 places, and counting loses nothing, since the float nearest to a count is the
-- entry itself
pub record Claim : Type 0 where
  pub ruled : (i : ℕ) → i < 960 → Rule i
  pub exact : map (λ (n : ℕ). round binary32 false n (2 ^ 41)) counts ≡ window

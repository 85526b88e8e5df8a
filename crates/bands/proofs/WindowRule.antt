-- The window's rule: six tests, each of which antt computes once over the whole table, and what they say at each entry.
-- Assumes nothing.
use Rattle.std.specs.Prelude.{◌+◌, ◌-◌, ◌^◌, ◌<◌}
use Rattle.rules.proofs.Common.{ℕ, Bool, true, false, refl, eqb, leb, ltb, T}
use lib.Dec.{leb→le, ltb→lt, eqb→eq, lt→ltb}
use lib.Ieee.{of_bits, round}
use Rattle.bands.specs.Window.{window, window_bits}
use Rattle.bands.specs.WindowRule.{count, counts, entry, squares, Rule, Claim}
use Rattle.rules.proofs.Tests.{at_each}

-- b, asked only where a holds
abbrev given : Bool → Bool → Bool
given true b = b
given false b = true

ask : (a b : Bool) → T (given a b) → T a → T b
ask true b t h = t
ask false b t h = absurd h

abbrev mirrored : ℕ → Bool
mirrored i = eqb (entry i) (entry (959 - i))

abbrev positive : ℕ → Bool
positive i = ltb 0 (entry i)

abbrev small : ℕ → Bool
small i = leb (entry i) (2 ^ 41)

abbrev rising : ℕ → Bool
rising i = given (ltb i 479) (leb (entry i) (entry (i + 1)))

abbrev above : ℕ → Bool
above i = given (ltb i 480) (leb (squares i) (2 ^ 82 + 2 ^ 59))

abbrev below : ℕ → Bool
below i = given (ltb i 480) (leb (2 ^ 82) (squares i + 2 ^ 59))

module _ (i : ℕ) (h : i < 960) where
  rule : Rule i
  unfolding counts window window_bits count of_bits
  rule = record {
    mirror = eqb→eq _ _ (at_each 960 mirrored tt i h);
    positive = ltb→lt _ _ (at_each 960 positive tt i h);
    small = leb→le _ _ (at_each 960 small tt i h);
    rises = λ b. leb→le _ _ (ask (ltb i 479) _ (at_each 960 rising tt i h) (lt→ltb _ _ b));
    near_above = λ b. leb→le _ _ (ask (ltb i 480) _ (at_each 960 above tt i h) (lt→ltb _ _ b));
    near_below = λ b. leb→le _ _ (ask (ltb i 480) _ (at_each 960 below tt i h) (lt→ltb _ _ b));
  }

pub claim : Claim
unfolding counts window window_bits count of_bits round
claim = record { ruled = rule; exact = refl }

-- Good samples stay good: together, in part, and with zeros behind them. Assumes nothing.
use Rattle.std.specs.Prelude.{◌∷◌, ◌++◌, ◌≡◌}
use Rattle.rules.proofs.Common.{ℕ, zero, suc, true, List, [], refl, get_or, take, drop, Float}
use lib.Ieee.{le, of_bits}
use Rattle.rules.specs.F32.{f32}
use Rattle.rules.specs.Tab.{tab}
use Rattle.rules.proofs.Tests.{both}
use Rattle.samples.specs.Samples.{good_sample, good}
use Rattle.pieces.specs.Pieces.{padded_to}

head : (x : Float) (xs : List Float) → good (x ∷ xs) ≡ true → (good_sample x ≡ true) × (good xs ≡ true)
unfolding good
head x xs e = both (good_sample x) (good xs) e

onto : (x : Float) (xs : List Float) → good_sample x ≡ true → good xs ≡ true → good (x ∷ xs) ≡ true
unfolding good
onto x xs a b = rw (a, b)

none : good [] ≡ true
unfolding good
none = refl

pub good_append : (xs ys : List Float) → good xs ≡ true → good ys ≡ true → good (xs ++ ys) ≡ true
good_append [] ys a b = b
good_append (x ∷ xs) ys a b = let h = head x xs a in onto x (xs ++ ys) h.0 (good_append xs ys h.1 b)

pub good_take : (n : ℕ) (xs : List Float) → good xs ≡ true → good (take n xs) ≡ true
good_take zero xs e = none
good_take (suc n) [] e = e
good_take (suc n) (x ∷ xs) e = let h = head x xs e in onto x (take n xs) h.0 (good_take n xs h.1)

pub good_drop : (n : ℕ) (xs : List Float) → good xs ≡ true → good (drop n xs) ≡ true
good_drop zero xs e = e
good_drop (suc n) [] e = e
good_drop (suc n) (x ∷ xs) e = good_drop n xs (head x xs e).1

-- 0 is a good sample
zero_good : good_sample (f32 0) ≡ true
unfolding le of_bits
zero_good = refl

good_at : (xs : List Float) (i : ℕ) → good xs ≡ true → good_sample (get_or xs i (f32 0)) ≡ true
good_at [] i e = zero_good
good_at (x ∷ xs) zero e = (head x xs e).0
good_at (x ∷ xs) (suc i) e = good_at xs i (head x xs e).1

pub good_padded : (n : ℕ) (xs : List Float) → good xs ≡ true → good (padded_to n xs) ≡ true
unfolding padded_to tab
good_padded n xs e = go n
  where
    go : (n : ℕ) → good (tab n (λ i. get_or xs i (f32 0))) ≡ true
    go zero = none
    go (suc n) =
        good_append (tab n (λ i. get_or xs i (f32 0))) (get_or xs n (f32 0) ∷ []) (go n)
        (onto (get_or xs n (f32 0)) [] (good_at xs n e) none)

-- The loop over the samples: they are good exactly if those that it has passed are and the rest is. Assumes nothing.
use Rattle.std.specs.Prelude.{◌+◌, ◌≤◌, ◌<◌, ◌&&◌, ◌≡◌}
use Rattle.rules.proofs.Common.{ℕ, suc, Bool, true, false, List, refl, sym, ap, ◌∙◌}
use Rattle.rules.proofs.Common.{length, drop, Float, nan}
use native.Mathlib.Numerals.{add-one}
use lib.ListN.{drop_of_length-le}
use lib.Seq.{drop-cons}
use Rattle.rules.specs.F32.{at}
use Rattle.samples.specs.Samples.{good_sample, good}

and_assoc : (a b c : Bool) → a && (b && c) ≡ (a && b) && c
and_assoc true b c = refl
and_assoc false b c = refl

and_true : (a : Bool) → a && true ≡ a
and_true true = refl
and_true false = refl

-- the next sample joins those that were passed
pub one_more_lem : (xs : List Float) (so_far : Bool) (i : ℕ) → i < length xs → good xs ≡ so_far && good (drop i xs)
    → good xs ≡ (so_far && good_sample (at xs i)) && good (drop (i + 1) xs)
unfolding good
one_more_lem xs so_far i h e =
    e ∙ ap (λ rest. so_far && good rest) (drop-cons xs i nan h)
    ∙ and_assoc so_far (good_sample (at xs i)) (good (drop (suc i) xs))
    ∙ ap (λ k. (so_far && good_sample (at xs i)) && good (drop k xs)) (sym (add-one i))

pub all_passed : (xs : List Float) (so_far : Bool) (i : ℕ) → length xs ≤ i → good xs ≡ so_far && good (drop i xs)
    → so_far ≡ good xs
unfolding good
all_passed xs so_far i h e = sym (e ∙ ap (λ rest. so_far && good rest) (drop_of_length-le xs {i = i} h)
    ∙ and_true so_far)

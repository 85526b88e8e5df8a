-- A list with zeros behind it, number by number. Assumes nothing.
use Rattle.std.specs.Prelude.{◌+◌, ◌-◌, ◌≤◌, ◌<◌, ◌∷◌, ◌++◌, ◌≡◌}
use Rattle.rules.proofs.Common.{ℕ, zero, suc, List, [], refl, sym, ap, ◌∙◌, length}
use Rattle.rules.proofs.Common.{get_or, take, replicate}
use Rattle.rules.proofs.Common.{length-take, length-append, Float, nan}
use native.Mathlib.Nat.{zero-add, not-suc-le-zero, le_of_suc-le-suc}
use native.Mathlib.Omega.{arith}
use lib.ListN.{length-replicate, get_or-replicate, get_or-append, get_or-eq_default}
use lib.Seq.{get_or-append-add, get_or-take, ext_get_or}
use Rattle.rules.specs.F32.{at, f32, zeros}
use Rattle.rules.specs.Place.{get}
use Rattle.rules.specs.Tab.{tab}
use Rattle.rules.proofs.Lists.{tab_get_d, length_tab, get_d_tab}
use Rattle.pieces.specs.Pieces.{padded_to}

same_at : {A : Type 0} (l : List A) (i : ℕ) (d e : A) → i < length l → get_or l i d ≡ get_or l i e
same_at [] i d e h = absurd (not-suc-le-zero h)
same_at (x ∷ l) zero d e h = refl
same_at (x ∷ l) (suc i) d e h = same_at l i d e (le_of_suc-le-suc h)

module _ (front rest : List Float) (i : ℕ) where
  pub in_front : i < length front → at front i ≡ get_or (front ++ rest) i (f32 0)
  in_front h = same_at front i nan (f32 0) h ∙ sym (get_or-append front rest (f32 0) i h)

  pub in_rest : length front ≤ i → i - length front < length rest
      → at rest (i - length front) ≡ get_or (front ++ rest) i (f32 0)
  in_rest b h =
      let whole : length front + (i - length front) ≡ i = omega arith in
      same_at rest (i - length front) nan (f32 0) h
      ∙ sym (get_or-append-add front rest (i - length front) (f32 0))
      ∙ ap (λ (k : ℕ). get_or (front ++ rest) k (f32 0)) whole

  pub past : length front ≤ i → length rest ≤ i - length front → f32 0 ≡ get_or (front ++ rest) i (f32 0)
  past b h = sym (get_or-eq_default (front ++ rest) (f32 0) (simp length-append (omega arith)))

pub length_padded : (n : ℕ) (xs : List Float) → length (padded_to n xs) ≡ n
unfolding padded_to
length_padded n xs = length_tab n (λ i. get_or xs i (f32 0))

-- with enough numbers there are no zeros
pub padded_full : (n : ℕ) (xs : List Float) → n ≤ length xs → padded_to n xs ≡ take n xs
unfolding padded_to
padded_full n xs h =
    let e = tab_get_d xs 0 n (f32 0) (omega arith) in
    simp zero-add at e

-- the numbers themselves stand in front
pub padded_front : (n : ℕ) (xs : List Float) → length xs ≤ n
    → get (record { at = 0; size = length xs }) (padded_to n xs) ≡ xs
unfolding get padded_to
padded_front n xs h =
    let all : ℕ → Float = λ i. get_or xs i (f32 0) in
    ext_get_or (f32 0) (take (length xs) (tab n all)) xs (simp (length-take, length_tab) (omega arith))
    (λ i b.
    let c : i < length xs = omega (arith, simp (length-take, length_tab) at b) in
    get_or-take (length xs) (tab n all) i (f32 0) (omega arith) ∙ get_d_tab n all i (f32 0) (omega arith))

-- nothing but zeros
pub padded_none : (n : ℕ) (xs : List Float) → length xs ≡ n → zeros (length xs) ≡ padded_to n []
unfolding padded_to
padded_none n xs e =
    let none : ℕ → Float = λ i. get_or [] i (f32 0) in
    ext_get_or (f32 0) (replicate (length xs) (f32 0)) (tab n none)
    (length-replicate (length xs) (f32 0) ∙ e ∙ sym (length_tab n none))
    (λ i b.
    let c : i < length xs = rw length-replicate at b in
    get_or-replicate (length xs) i (f32 0) (f32 0) c ∙ sym (get_d_tab n none i (f32 0) (omega arith)))

-- fewer places
pub padded_less : (n m : ℕ) (xs : List Float) → n ≤ m → take n (padded_to m xs) ≡ padded_to n xs
unfolding padded_to
padded_less n m xs h =
    let all : ℕ → Float = λ i. get_or xs i (f32 0) in
    ext_get_or (f32 0) (take n (tab m all)) (tab n all) (simp (length-take, length_tab) (omega arith))
    (λ i b.
    let c : i < n = omega (arith, simp (length-take, length_tab) at b) in
    get_or-take n (tab m all) i (f32 0) c ∙ get_d_tab m all i (f32 0) (omega arith) ∙ sym (get_d_tab n all i (f32 0) c))

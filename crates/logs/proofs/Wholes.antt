-- f64 operations on whole numbers of 2^-g: where the result has at most 53 digits, nothing is lost. Assumes nothing.
use Rattle.std.specs.Prelude.{◌+◌, ◌-◌, ◌*◌, ◌^◌, ◌≤◌, ◌<◌, ◌&&◌, ◌≡◌}
use Rattle.rules.proofs.Common.{ℕ, zero, suc, Bool, true, false, cond, not}
use Rattle.rules.proofs.Common.{refl, sym, ap, subst, ◌∙◌, ltb}
use Rattle.rules.proofs.Common.{pos, Float, binary64, nan, inf, fin, up, down}
use native.Mathlib.Nat.{lt_irrefl, zero-lt-suc, mul_assoc, mul_comm, mul_right_comm, mul-mul-mul_comm, mul-pos}
use native.Mathlib.Nat.{mul-le-mul_right, mul-lt-mul_of_pos_right, le_of_mul-le-mul_right, lt_of_mul-lt-mul_right}
use native.Mathlib.Nat.{lt_of_lt_of_le, add-mul, mul-sub}
use native.Mathlib.Omega.{arith}
use lib.IntN.{ℤ, negsuc, nat_abs, neg_ℤ, sub_ℕ, ◌+ℤ◌, ◌-ℤ◌, ◌*ℤ◌}
use lib.Pow.{pow-add, pow_pos, pow_mono, shl_lt}
use lib.Ieee.{Format, unlike, round, sum, add, sub, neg, mul}
use lib.Ieee.Exact.{HasValue, round_exact}
use lib.Ieee.Fits.{down_pos}
use lib.Ieee.Scale.{round_same}
use borrow.Author.Tests.{lt-ltb, le-ltb, ltb-true, ltb-false}
use Rattle.rules.specs.F64.{◌+₆₄◌, ◌-₆₄◌, ◌*₆₄◌}
use Rattle.logs.specs.Exact.{Exactly}

-- n / 2^g, rounded, is itself
rounds : (s : Bool) (n g : ℕ) → n < 2 ^ 53 → g ≤ 1074 → HasValue (round binary64 s n (2 ^ g)) s n (2 ^ g)
rounds s n g small fine =
    let room : 1074 - g + g ≡ 1074 = omega arith in
    round_exact binary64 s n (2 ^ g) n (1074 - g) (pow_pos g) small
    (lt_of_lt_of_le (shl_lt 53 (1074 - g) small) (pow_mono {j = 2098} (omega arith)))
    (ap (λ (k : ℕ). n * 2 ^ k) (sym room) ∙ ap (λ (k : ℕ). n * k) (pow-add 2 (1074 - g) g)
    ∙ sym (mul_assoc n (2 ^ (1074 - g)) (2 ^ g)))

-- ---- the product
product_at_lem : (f : Format) (x y : Float) (s t : Bool) (a b c d : ℕ) → 0 < c → 0 < d → HasValue x s a c
    → HasValue y t b d
    → mul f x y ≡ round f (unlike s t) (a * b) (c * d)
unfolding mul
product_at_lem f nan y s t a b c d C D h k = absurd h
product_at_lem f (inf u) y s t a b c d C D h k = absurd h
product_at_lem f (fin u m e) nan s t a b c d C D h k = absurd k
product_at_lem f (fin u m e) (inf v) s t a b c d C D h k = absurd k
product_at_lem f (fin u m e) (fin v n w) s t a b c d C D h k =
    round_same f (unlike u v) (m * up e * (n * up w)) (down e * down w) (a * b) (c * d)
    (mul-pos (down_pos e) (down_pos w)) (mul-pos C D)
    (mul-mul-mul_comm (m * up e) (n * up w) c d ∙ ap (λ (z : ℕ). z * (n * up w * d)) h.1
    ∙ ap (λ (z : ℕ). a * down e * z) k.1 ∙ mul-mul-mul_comm a (down e) b (down w))
    ∙ ap (λ (z : Bool). round f (unlike z v) (a * b) (c * d)) h.0
    ∙ ap (λ (z : Bool). round f (unlike s z) (a * b) (c * d)) k.0

product_signed : (s t : Bool) (x y : Float) (a b g h : ℕ) → a * b < 2 ^ 53 → g + h ≤ 1074 → HasValue x s a (2 ^ g)
    → HasValue y t b (2 ^ h)
    → HasValue (x *₆₄ y) (unlike s t) (a * b) (2 ^ (g + h))
product_signed s t x y a b g h small fine p q =
    subst (λ (z : Float). HasValue z (unlike s t) (a * b) (2 ^ (g + h)))
    (ap (λ (z : ℕ). round binary64 (unlike s t) (a * b) z) (pow-add 2 g h)
    ∙ sym (product_at_lem binary64 x y s t a b (2 ^ g) (2 ^ h) (pow_pos g) (pow_pos h) p q))
    (rounds (unlike s t) (a * b) (g + h) small fine)

below_zero : (x : Float) (n c : ℕ) → 0 < n → HasValue x true n c → Exactly x (neg_ℤ (pos n)) c
below_zero x zero c some h = absurd (lt_irrefl 0 some)
below_zero x (suc n) c some h = h

-- by a number above zero
pub product_exact : (x y : Float) (z : ℤ) (n g h : ℕ) → 0 < n → nat_abs z * n < 2 ^ 53 → g + h ≤ 1074
    → Exactly x z (2 ^ g) → Exactly y (pos n) (2 ^ h)
    → Exactly (x *₆₄ y) (z *ℤ pos n) (2 ^ (g + h))
product_exact x y (pos a) n g h some small fine p q = product_signed false false x y a n g h small fine p q
product_exact x y (negsuc a) n g h some small fine p q =
    below_zero (x *₆₄ y) (suc a * n) (2 ^ (g + h)) (mul-pos (zero-lt-suc a) some)
    (product_signed true false x y (suc a) n g h small fine p q)

-- ---- the sum, over one denominator
module _ (A B a b C c : ℕ) (P : 0 < C) (p : 0 < c) (h : A * c ≡ a * C) (k : B * c ≡ b * C) where
  crossed_sum : (A + B) * c ≡ (a + b) * C
  crossed_sum = add-mul A B c ∙ ap (λ (z : ℕ). z + B * c) h ∙ ap (λ (z : ℕ). a * C + z) k ∙ sym (add-mul a b C)

  crossed_less : (B - A) * c ≡ (b - a) * C
  crossed_less =
      mul_comm (B - A) c
      ∙ mul-sub c B A
      ∙ ap (λ (z : ℕ). z - c * A) (mul_comm c B ∙ k ∙ mul_comm b C)
      ∙ ap (λ (z : ℕ). C * b - z) (mul_comm c A ∙ h ∙ mul_comm a C)
      ∙ sym (mul-sub C b a)
      ∙ mul_comm C (b - a)

  crossed_test : ltb A B ≡ ltb a b
  crossed_test = go (ltb A B) refl
    where
      go : (t : Bool) → ltb A B ≡ t → ltb A B ≡ ltb a b
      go true e =
          let less : a * C < b * C = subst (λ (z : ℕ). z < b * C) h
          (subst (λ (z : ℕ). A * c < z) k (mul-lt-mul_of_pos_right (ltb-true A B e) p)) in
          e ∙ sym (lt-ltb a b (lt_of_mul-lt-mul_right C less))
      go false e =
          let over : b * C ≤ a * C =
          subst (λ (z : ℕ). z ≤ a * C) k (subst (λ (z : ℕ). B * c ≤ z) h (mul-le-mul_right c (ltb-false A B e))) in
          e ∙ sym (le-ltb a b (le_of_mul-le-mul_right over P))

sum_same : (f : Format) (s t : Bool) (A B a b C c : ℕ) → 0 < C → 0 < c → A * c ≡ a * C → B * c ≡ b * C
    → sum f s A t B C ≡ sum f s a t b c
unfolding sum
sum_same f s t A B a b C c P p h k =
    rw (
      crossed_test A B a b C c P p h k,
      crossed_test B A b a C c P p k h,
      round_same f s (A + B) C (a + b) c P p (crossed_sum A B a b C c P p h k),
      round_same f t (B - A) C (b - a) c P p (crossed_less A B a b C c P p h k),
      round_same f (s && ltb b a) (A - B) C (a - b) c P p (crossed_less B A b a C c P p k h),
    )

add_at : (f : Format) (x y : Float) (s t : Bool) (a b c : ℕ) → 0 < c → HasValue x s a c → HasValue y t b c
    → add f x y ≡ sum f s a t b c
unfolding add
add_at f nan y s t a b c C h k = absurd h
add_at f (inf u) y s t a b c C h k = absurd h
add_at f (fin u m e) nan s t a b c C h k = absurd k
add_at f (fin u m e) (inf v) s t a b c C h k = absurd k
add_at f (fin u m e) (fin v n d) s t a b c C h k =
    sum_same f u v (m * up e * down d) (n * up d * down e) a b (down e * down d) c (mul-pos (down_pos e) (down_pos d)) C
    (mul_right_comm (m * up e) (down d) c ∙ ap (λ (z : ℕ). z * down d) h.1 ∙ mul_assoc a (down e) (down d))
    (mul_right_comm (n * up d) (down e) c ∙ ap (λ (z : ℕ). z * down e) k.1 ∙ mul_assoc b (down d) (down e)
    ∙ ap (λ (z : ℕ). b * z) (mul_comm (down d) (down e)))
    ∙ ap (λ (z : Bool). sum f z a v b c) h.0
    ∙ ap (λ (z : Bool). sum f s a z b c) k.0

-- of two signs: what is left of the larger, with its sign
apart : (a b g : ℕ) → nat_abs (sub_ℕ a (suc b)) < 2 ^ 53 → g ≤ 1074
    → Exactly (sum binary64 false a true (suc b) (2 ^ g)) (sub_ℕ a (suc b)) (2 ^ g)
unfolding sum
apart a b g small fine = go (ltb a (suc b)) refl small
  where
    go : (t : Bool) → ltb a (suc b) ≡ t → nat_abs (cond t (negsuc (suc b - suc a)) (pos (a - suc b))) < 2 ^ 53
        → Exactly (cond t (round binary64 true (suc b - a) (2 ^ g)) (round binary64 false (a - suc b) (2 ^ g)))
        (cond t (negsuc (suc b - suc a)) (pos (a - suc b))) (2 ^ g)
    go true e small =
        let left : suc (suc b - suc a) ≡ suc b - a = omega (arith, ltb-true a (suc b) e) in
        subst (λ (k : ℕ). HasValue (round binary64 true k (2 ^ g)) true (suc (suc b - suc a)) (2 ^ g)) left
        (rounds true (suc (suc b - suc a)) g small fine)
    go false e small = rounds false (a - suc b) g small fine

together : (a b g : ℕ) → nat_abs (sub_ℕ b (suc a)) < 2 ^ 53 → g ≤ 1074
    → Exactly (sum binary64 true (suc a) false b (2 ^ g)) (sub_ℕ b (suc a)) (2 ^ g)
unfolding sum
together a b g small fine = go (ltb b (suc a)) refl small
  where
    go : (t : Bool) → ltb b (suc a) ≡ t → nat_abs (cond t (negsuc (suc a - suc b)) (pos (b - suc a))) < 2 ^ 53
        → Exactly (cond (ltb (suc a) b) (round binary64 false (b - suc a) (2 ^ g))
        (round binary64 t (suc a - b) (2 ^ g))) (cond t (negsuc (suc a - suc b)) (pos (b - suc a))) (2 ^ g)
    go true e small =
        let left : suc (suc a - suc b) ≡ suc a - b = omega (arith, ltb-true b (suc a) e) in
        rw (le-ltb (suc a) b (omega (arith, ltb-true b (suc a) e)))
        (subst (λ (k : ℕ). HasValue (round binary64 true k (2 ^ g)) true (suc (suc a - suc b)) (2 ^ g)) left
        (rounds true (suc (suc a - suc b)) g small fine))
    go false e small = more (ltb (suc a) b) refl
      where
        more : (u : Bool) → ltb (suc a) b ≡ u
            → HasValue (cond u (round binary64 false (b - suc a) (2 ^ g)) (round binary64 false (suc a - b) (2 ^ g)))
            false (b - suc a) (2 ^ g)
        more true d = rounds false (b - suc a) g small fine
        more false d =
            let none : b - suc a ≡ suc a - b = omega (arith, ltb-false b (suc a) e, ltb-false (suc a) b d) in
            subst (λ (k : ℕ). HasValue (round binary64 false k (2 ^ g)) false (b - suc a) (2 ^ g)) none
            (rounds false (b - suc a) g small fine)

both_below : (a b g : ℕ) → suc (suc (a + b)) < 2 ^ 53 → g ≤ 1074
    → Exactly (sum binary64 true (suc a) true (suc b) (2 ^ g)) (negsuc (suc (a + b))) (2 ^ g)
unfolding sum
both_below a b g small fine =
    let all : suc (suc (a + b)) ≡ suc a + suc b = omega arith in
    subst (λ (k : ℕ). HasValue (round binary64 true k (2 ^ g)) true (suc (suc (a + b))) (2 ^ g)) all
    (rounds true (suc (suc (a + b))) g small fine)

both_above : (a b g : ℕ) → a + b < 2 ^ 53 → g ≤ 1074
    → Exactly (sum binary64 false a false b (2 ^ g)) (pos (a + b)) (2 ^ g)
unfolding sum
both_above a b g small fine = rounds false (a + b) g small fine

pub sum_exact : (x y : Float) (z w : ℤ) (g : ℕ) → nat_abs (z +ℤ w) < 2 ^ 53 → g ≤ 1074 → Exactly x z (2 ^ g)
    → Exactly y w (2 ^ g) → Exactly (x +₆₄ y) (z +ℤ w) (2 ^ g)
sum_exact x y (pos a) (pos b) g small fine p q =
    rw (add_at binary64 x y false false a b (2 ^ g) (pow_pos g) p q) (both_above a b g small fine)
sum_exact x y (pos a) (negsuc b) g small fine p q =
    rw (add_at binary64 x y false true a (suc b) (2 ^ g) (pow_pos g) p q) (apart a b g small fine)
sum_exact x y (negsuc a) (pos b) g small fine p q =
    rw (add_at binary64 x y true false (suc a) b (2 ^ g) (pow_pos g) p q) (together a b g small fine)
sum_exact x y (negsuc a) (negsuc b) g small fine p q =
    rw (add_at binary64 x y true true (suc a) (suc b) (2 ^ g) (pow_pos g) p q) (both_below a b g small fine)

-- less a number above zero
negated : (y : Float) (n c : ℕ) → HasValue y false n c → HasValue (neg y) true n c
unfolding neg
negated nan n c h = absurd h
negated (inf s) n c h = absurd h
negated (fin s m e) n c h = (ap not h.0, h.1)

pub difference_exact : (x y : Float) (z : ℤ) (n g : ℕ) → 0 < n → nat_abs (z -ℤ pos n) < 2 ^ 53 → g ≤ 1074
    → Exactly x z (2 ^ g) → Exactly y (pos n) (2 ^ g)
    → Exactly (x -₆₄ y) (z -ℤ pos n) (2 ^ g)
unfolding sub
difference_exact x y z zero g some small fine p q = absurd (lt_irrefl 0 some)
difference_exact x y z (suc n) g some small fine p q =
    sum_exact x (neg y) z (negsuc n) g small fine p (negated y (suc n) (2 ^ g) q)

-- ---- sizes
abs_apart : (a b : ℕ) → nat_abs (sub_ℕ a b) ≤ a + b
abs_apart a b = go (ltb a b) refl
  where
    go : (t : Bool) → ltb a b ≡ t → nat_abs (cond t (negsuc (b - suc a)) (pos (a - b))) ≤ a + b
    go true e = omega (arith, ltb-true a b e)
    go false e = omega arith

pub abs_sum : (z w : ℤ) → nat_abs (z +ℤ w) ≤ nat_abs z + nat_abs w
abs_sum (pos a) (pos b) = omega arith
abs_sum (pos a) (negsuc b) = abs_apart a (suc b)
abs_sum (negsuc a) (pos b) = omega (arith, abs_apart b (suc a))
abs_sum (negsuc a) (negsuc b) = omega arith

abs_neg : (n : ℕ) → nat_abs (neg_ℤ (pos n)) ≡ n
abs_neg zero = refl
abs_neg (suc n) = refl

pub abs_difference : (z : ℤ) (n : ℕ) → nat_abs (z -ℤ pos n) ≤ nat_abs z + n
abs_difference z n = omega (arith, abs_sum z (neg_ℤ (pos n)), abs_neg n)

pub abs_product : (z : ℤ) (n : ℕ) → nat_abs (z *ℤ pos n) ≡ nat_abs z * n
abs_product (pos a) n = refl
abs_product (negsuc a) n = abs_neg (suc a * n)

-- A number up to 200.5, added to 2 ^ 23 and taken from it again, is a whole number next to it; less 1 where that is
-- above it, it is its whole part. Assumes nothing.
use Rattle.std.specs.Prelude.{◌+◌, ◌-◌, ◌*◌, ◌/◌, ◌^◌, ◌≤◌, ◌<◌, ◌≡◌}
use Rattle.rules.proofs.Common.{ℕ, Bool, true, false, cond, true≢false, List}
use Rattle.rules.proofs.Common.{refl, sym, ap, subst, ◌∙◌}
use Rattle.rules.proofs.Common.{eqb, T, pos, Float, binary32, nan, inf, fin, is_nan, up, down}
use Rattle.std.proofs.Common.{ℤ, nat_abs, ⊎_elim, suc-le-suc, lt_of_lt_of_le, le_of_lt, mul-le-mul_right, mul_assoc}
use Rattle.std.proofs.Common.{suc-mul, div-lt_iff_lt-mul, add-mul, le_antisymm, eq-or-lt_of_le, mul-lt-mul_of_pos_right}
use Rattle.std.proofs.Common.{mul-pos, le-div_iff_mul-le, mul-one, mul_right_comm, div-mul-le_self, div-one, arith}
use Rattle.std.proofs.Common.{lit<, lit≤, eqb→eq, w32, to_z, of_z, le-ltb, lt-ltb}
use native.Mathlib.Nat.{min-eq_left, mod-one}
use lib.Signed.{non_neg}
use lib.Count.{count_trailing_zeros}
use lib.Ieee.{units, odd, round, size, sub, add, neg, sum, climb, span, of_bits, of_fields, of_int, lt, to_unsigned}
use lib.Ieee.{to_signed, in_signed}
use lib.Ieee.Exact.{HasValue}
use lib.Ieee.Back.{round_whole, positive_back}
use lib.Ieee.Fits.{round_is, core, down_pos}
use lib.Ieee.Nearest.{closest, closest_mono, closest_same}
use Rattle.numbers.proofs.Pattern.{size_is}
use Rattle.numbers.proofs.UpToEight.{Upto, in_table, half_up, within}
use Rattle.numbers.specs.Activations.{magnitude, sign_of, place, near, tansig_in}
use Rattle.numbers.specs.Private.{UpToEight, inside_of, entry_in, followed}
use Rattle.rules.specs.F32.{f32, ◌⊕◌, ◌⊖◌, ◌⊗◌}
use Rattle.rules.proofs.Numbers.{casts}
use Rattle.rules.proofs.Tests.{at_each}
use Rattle.floats.proofs.Same.{same, floats}

closest_scaled : (a c s : ℕ) → 0 < c → 0 < s → closest (a * s) (c * s) ≡ closest a c
closest_scaled a c s C S = closest_same (a * s) (c * s) a c (mul-pos C S) C (mul_right_comm a s c ∙ mul_assoc a c s)

-- with the units as a number s
between : (a c s x y : ℕ) → 0 < c → 0 < s → x * c ≤ a → a < y * c → (x * s ≤ a * s / c) × (a * s / c < y * s)
between a c s x y C S least most = (
  (le-div_iff_mul-le C).1 (subst (λ (k : ℕ). k ≤ a * s) (mul_right_comm x c s) (mul-le-mul_right s least)),
  (div-lt_iff_lt-mul C).1 (subst (λ (k : ℕ). a * s < k) (mul_right_comm y c s) (mul-lt-mul_of_pos_right most S)),
)

pub round_binade : (a c : ℕ) → 0 < c → 8388608 * c ≤ a → a < 16777216 * c
    → round binary32 false a c ≡ units binary32 false (closest a c) 149
round_binade a c C least most =
    let b = between a c (2 ^ 149) 8388608 16777216 C (lit< tt) least most in
    round_is binary32 false a c
    ∙ ap (λ (k : ℕ). core binary32 false (a * 2 ^ 149) c (k - 24)) (size_is (a * 2 ^ 149 / c) 172 b.0 b.1)
    ∙ ap (λ (q : ℕ). units binary32 false q 149) (closest_scaled a c (2 ^ 149) C (lit< tt))

closest_whole : (n : ℕ) → closest n 1 ≡ n
closest_whole n = rw (div-one n, mod-one n)

-- ---- whole numbers up to 201
near_is : (k : ℕ) → k < 202 → units binary32 false (8388608 + k) 149 ⊖ f32 0x4B000000 ≡ of_int binary32 (pos k)
unfolding units odd sub add neg sum round climb span size of_bits of_fields of_int count_trailing_zeros
near_is k h =
    floats
    _ _ (at_each 202 (λ i. same (units binary32 false (8388608 + i) 149 ⊖ f32 0x4B000000) (of_int binary32 (pos i))) tt
    k h)

less_none : (k : ℕ) → k < 202 → of_int binary32 (pos k) ⊖ f32 0 ≡ of_int binary32 (pos k)
unfolding units odd sub add neg sum round climb span size of_bits of_fields of_int count_trailing_zeros
less_none k h = floats _ _ (at_each 202 (λ i. same (of_int binary32 (pos i) ⊖ f32 0) (of_int binary32 (pos i))) tt k h)

less_one : (k : ℕ) → k < 202 → of_int binary32 (pos (k + 1)) ⊖ f32 0x3F800000 ≡ of_int binary32 (pos k)
unfolding units odd sub add neg sum round climb span size of_bits of_fields of_int count_trailing_zeros
less_one k h =
    floats _ _ (at_each 202 (λ i. same (of_int binary32 (pos (i + 1)) ⊖ f32 0x3F800000) (of_int binary32 (pos i))) tt k
    h)

-- ---- the sum
sum_is : (m : ℕ) (e : ℤ) → fin false m e ⊕ f32 0x4B000000 ≡ round binary32 false (m * up e + 8388608 * down e) (down e)
unfolding add sum of_bits of_fields
sum_is m e = rw (mul-one (m * up e), mul-one (down e))

-- ---- the test, against a whole number
under : (m : ℕ) (e : ℤ) (w : Float) (k : ℕ) → HasValue w false k 1 → m * up e < k * down e → lt (fin false m e) w ≡ true
unfolding lt
under m e nan k v h = absurd v
under m e (inf t) k v h = absurd v
under m e (fin true n d) k v h = absurd (true≢false v.0)
under m e (fin false n d) k v h =
    let same : n * up d * down e ≡ k * down e * down d =
    ap (λ (x : ℕ). x * down e) (sym (mul-one (n * up d)) ∙ v.1) ∙ mul_right_comm k (down d) (down e) in
    lt-ltb (m * up e * down d) (n * up d * down e)
    (subst (λ (x : ℕ). m * up e * down d < x) (sym same) (mul-lt-mul_of_pos_right h (down_pos d)))

over : (m : ℕ) (e : ℤ) (w : Float) (k : ℕ) → HasValue w false k 1 → k * down e ≤ m * up e → lt (fin false m e) w ≡ false
unfolding lt
over m e nan k v h = absurd v
over m e (inf t) k v h = absurd v
over m e (fin true n d) k v h = absurd (true≢false v.0)
over m e (fin false n d) k v h =
    let same : n * up d * down e ≡ k * down e * down d =
    ap (λ (x : ℕ). x * down e) (sym (mul-one (n * up d)) ∙ v.1) ∙ mul_right_comm k (down d) (down e) in
    le-ltb (m * up e * down d) (n * up d * down e)
    (subst (λ (x : ℕ). x ≤ m * up e * down d) (sym same) (mul-le-mul_right (down d) h))

-- ---- the whole part
abbrev pub nearby : Float → Float
nearby t = t ⊕ f32 0x4B000000 ⊖ f32 0x4B000000

abbrev pub lowered : Float → Float
lowered t = nearby t ⊖ cond (lt t (nearby t)) (f32 0x3F800000) (f32 0)

of_int_value : (k : ℕ) → k < 202 → HasValue (of_int binary32 (pos k)) false k 1
unfolding of_int
of_int_value k h = round_whole binary32 false k (omega arith)

module _ (m : ℕ) (e : ℤ) (n : ℕ) (small : n < 201) (least : n * down e ≤ m * up e)
    (most : m * up e < (n + 1) * down e) where
  abbrev a : ℕ
  a = m * up e + 8388608 * down e

  rounded_is : fin false m e ⊕ f32 0x4B000000 ≡ units binary32 false (closest a (down e)) 149
  rounded_is =
      sum_is m e ∙ round_binade a (down e) (down_pos e) (omega arith)
      (omega (arith, mul-le-mul_right (down e) small, suc-mul n (down e), add-mul n 1 (down e), down_pos e))

  at_least : 8388608 + n ≤ closest a (down e)
  at_least =
      subst (λ (x : ℕ). x ≤ closest a (down e)) (closest_whole (8388608 + n))
      (closest_mono (8388608 + n) 1 a (down e) (omega arith) (down_pos e) (omega (arith, add-mul 8388608 n (down e))))

  at_most : closest a (down e) ≤ 8388608 + (n + 1)
  at_most =
      subst (λ (x : ℕ). closest a (down e) ≤ x) (closest_whole (8388608 + (n + 1)))
      (closest_mono a (down e) (8388608 + (n + 1)) 1 (down_pos e) (omega arith)
      (omega (arith, add-mul 8388608 (n + 1) (down e))))

  by : (k : ℕ) → closest a (down e) ≡ 8388608 + k → k < 202 → nearby (fin false m e) ≡ of_int binary32 (pos k)
  by k q b =
      ap (λ (x : Float). x ⊖ f32 0x4B000000) (rounded_is ∙ ap (λ (x : ℕ). units binary32 false x 149) q) ∙ near_is k b

  stays : closest a (down e) ≡ 8388608 + n → lowered (fin false m e) ≡ of_int binary32 (pos n)
  stays q =
      let near = by n q (omega arith) in
      rw (near, over m e (of_int binary32 (pos n)) n (of_int_value n (omega arith)) least) (less_none n (omega arith))

  falls : closest a (down e) ≡ 8388608 + (n + 1) → lowered (fin false m e) ≡ of_int binary32 (pos n)
  falls q =
      let near = by (n + 1) q (omega arith) in
      rw (near, under m e (of_int binary32 (pos (n + 1))) (n + 1) (of_int_value (n + 1) (omega arith)) most)
      (less_one n (omega arith))

  pub lowered_is : lowered (fin false m e) ≡ of_int binary32 (pos n)
  lowered_is = ⊎_elim (λ q. falls q) (λ b. stays (le_antisymm (omega arith) at_least)) (eq-or-lt_of_le at_most)

pub whole_part_lem : (t : Float) → Upto 401 2 t → lowered t ≡ of_int binary32 (pos (to_unsigned 64 t))
unfolding to_unsigned
whole_part_lem nan h = absurd h
whole_part_lem (inf s) h = absurd h
whole_part_lem (fin true m e) h = absurd h
whole_part_lem (fin false m e) h =
    let below : m * up e / down e < 201 = (div-lt_iff_lt-mul (down_pos e)).1 (omega (arith, down_pos e)) in
    let next : m * up e / down e < m * up e / down e + 1 = omega arith in
    rw (min-eq_left (le_of_lt (lt_of_lt_of_le below (lit≤ tt))))
    (lowered_is m e (m * up e / down e) below (div-mul-le_self (m * up e) (down e))
    ((div-lt_iff_lt-mul (down_pos e)).0 next))

-- ---- what the tests leave
none : UpToEight (f32 0)
unfolding of_bits
none = lit≤ tt

pub inside_within : (x : Float) → UpToEight (inside_of x)
inside_within x = go (lt x (f32 0x41000000)) refl (lt (neg (f32 0x41000000)) x) refl
  where
    go : (p : Bool) → lt x (f32 0x41000000) ≡ p → (q : Bool) → lt (neg (f32 0x41000000)) x ≡ q
        → UpToEight (cond p (cond q (magnitude x) (f32 0)) (f32 0))
    go true a true b = within x a b
    go true a false b = none
    go false a q b = none

pub ends : (table : List Float) (x : Float) → followed x (entry_in table x) ≡ tansig_in table x
unfolding tansig_in
ends table x = go (is_nan x) (lt x (f32 0x41000000)) (lt (neg (f32 0x41000000)) x)
  where
    go : (n p q : Bool)
        → cond n (f32 0) (cond p
        (cond q (sign_of x ⊗ near table (cond p (cond q (magnitude x) (f32 0)) (f32 0))) (neg (f32 0x3F800000)))
        (f32 0x3F800000))
        ≡ cond n (f32 0) (cond p (cond q (sign_of x ⊗ near table (magnitude x)) (neg (f32 0x3F800000)))
        (f32 0x3F800000))
    go true p q = refl
    go false true true = refl
    go false true false = refl
    go false false q = refl

-- the place of what they leave is one of the table's
pub listed : (x : Float) → place (inside_of x) < 201
listed x = suc-le-suc (in_table (f32 0x3F000000 ⊕ f32 0x41C80000 ⊗ inside_of x)
    (half_up (inside_of x) (inside_within x)))

-- ---- the place as a number
small_back : (k : ℕ) → k < 201
    → T (in_signed binary32 31 (of_int binary32 (pos k))) × (to_signed 31 (of_int binary32 (pos k)) ≡ pos k)
small_back k h = positive_back binary32 31 k (casts k (omega arith)) (lt_of_lt_of_le h (lit≤ tt))

pub castable : (k : ℕ) (w : Float) → k < 201 → w ≡ of_int binary32 (pos k) → T (in_signed binary32 31 w)
castable k w h e = rw e (small_back k h).0

pub not_below : (k : ℕ) (w : Float) → k < 201 → w ≡ of_int binary32 (pos k)
    → T (non_neg (to_z w32 (of_z w32 (to_signed 31 w))))
not_below k w h e = rw (e, (small_back k h).1) (at_each 201 (λ i. non_neg (to_z w32 (of_z w32 (pos i)))) tt k h)

pub number_is : (k : ℕ) (w : Float) → k < 201 → w ≡ of_int binary32 (pos k)
    → nat_abs (to_z w32 (of_z w32 (to_signed 31 w))) ≡ k
number_is k w h e =
    rw (e, (small_back k h).1) (eqb→eq _ _ (at_each 201 (λ i. eqb (nat_abs (to_z w32 (of_z w32 (pos i)))) i) tt k h))

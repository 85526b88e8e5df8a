-- What the constants' rule is for: m * centre - 1 and e * two_high + high lose nothing, whichever f32 above zero x is.
-- Assumes nothing.
use Rattle.std.specs.Prelude.{◌+◌, ◌-◌, ◌*◌, ◌/◌, ◌%◌, ◌^◌, ◌≤◌, ◌<◌, ◌≡◌}
use Rattle.rules.proofs.Common.{ℕ, zero, suc, Bool, true, false, refl, sym}
use Rattle.rules.proofs.Common.{ap, subst, ◌∙◌, T, pos}
use Rattle.rules.proofs.Common.{Float, binary32, binary64, nan, inf, fin, up, down}
use native.Mathlib.Nat.{le_trans, lt_of_le_of_lt, lt_of_lt_of_le, mul-le-mul, mul_assoc, mul_right_comm, mul-div_cancel}
use native.Mathlib.Nat.{eq_of_mul-eq-mul_right}
use native.Mathlib.Omega.{arith}
use lib.Dec.{lit<, lit≤}
use lib.IntN.{nat_abs, ◌-ℤ◌, ◌*ℤ◌}
use lib.Pow.{pow-add, pow_pos, pow_mono, shl_lt}
use lib.Ieee.{size, fits, of_int, of_bits, to_bits}
use lib.Ieee.Back.{round_whole}
use lib.Ieee.Bits.{to_bits-lt}
use lib.Ieee.Digits.{size-le}
use lib.Ieee.Exact.{HasValue}
use lib.Ieee.Fits.{fits_widens, down_pos}
use lib.Ieee.Positive.{positive}
use Rattle.numbers.proofs.Held.{fits_says, place}
use Rattle.numbers.proofs.Pattern.{pattern_value}
use Rattle.rules.specs.F64.{f64, ◌*₆₄◌}
use Rattle.logs.specs.Tables.{row_at, two_high}
use Rattle.logs.specs.Log10.{exponent_of, mantissa_of, row_of, off_centre, high_of}
use Rattle.logs.specs.Exact.{Exactly, wholes, digits_of, RestExact, HighExact, Exact, Claim}
use Rattle.logs.proofs.Rule.{rule, two_rule}
use Rattle.logs.proofs.Wholes.{product_exact, sum_exact, difference_exact, abs_sum, abs_difference, abs_product}

-- the place is one of the table's
placed : (bits : ℕ) → row_of bits < 33
placed bits = omega arith

-- ---- the constants 1 and 1023
one_exact : Exactly (f64 0x3FF0000000000000) (pos (2 ^ 43)) (2 ^ 43)
unfolding of_bits
one_exact = (refl, refl)

bias_exact : Exactly (f64 0x408FF80000000000) (pos 1023) (2 ^ 0)
unfolding of_bits
bias_exact = (refl, refl)

-- ---- m
-- from one fraction to another of the same size
rescaled : (x : Float) (s : Bool) (w l n d : ℕ) → 0 < l → n * l ≡ w * d → HasValue x s w l → HasValue x s n d
rescaled nan s w l n d p h v = v
rescaled (inf t) s w l n d p h v = v
rescaled (fin t m e) s w l n d p h v = (
  v.0,
  eq_of_mul-eq-mul_right l p (m * up e * d) (n * down e)
      (mul_right_comm (m * up e) d l ∙ ap (λ (k : ℕ). k * d) v.1 ∙ mul_right_comm w (down e) d
      ∙ ap (λ (k : ℕ). k * down e) (sym h) ∙ mul_right_comm n l (down e)),
)

module _ (bits : ℕ) (short : bits % 2 ^ 29 ≡ 0) where
  mantissa_exact : Exactly (mantissa_of bits) (pos (digits_of bits)) (2 ^ 23)
  mantissa_exact =
      let d = bits % 2 ^ 52 in
      let all : 2 ^ 52 + d ≡ digits_of bits * 2 ^ 29 = omega arith in
      let joined : 0 + (1022 * 2 ^ 52 + (2 ^ 52 + d)) ≡ 0x3FF0000000000000 + d = omega arith in
      rescaled (mantissa_of bits) false ((2 ^ 52 + d) * 2 ^ 1022) (2 ^ 1074) (digits_of bits) (2 ^ 23) (pow_pos 1074)
      (sym (ap (λ (k : ℕ). k * 2 ^ 1022 * 2 ^ 23) all
      ∙ ap (λ (k : ℕ). k * 2 ^ 23) (mul_assoc (digits_of bits) (2 ^ 29) (2 ^ 1022))
      ∙ mul_assoc (digits_of bits) (2 ^ 29 * 2 ^ 1022) (2 ^ 23)))
      (subst (λ (k : ℕ). HasValue (of_bits binary64 k) false ((2 ^ 52 + d) * 2 ^ 1022) (2 ^ 1074)) joined
      (pattern_value binary64 false (2 ^ 52 + d) 1022 (omega arith, λ K. omega arith)
      (lt_of_lt_of_le (shl_lt 53 1022 (omega arith)) (pow_mono {i = 53 + 1022} {j = 2098} (lit≤ tt)))))

  pub rest_exact : RestExact bits
  unfolding off_centre
  rest_exact =
      let i = row_of bits in
      let c = (rule i (placed bits)).centre in
      let m = digits_of bits in
      let n = wholes 20 (row_at i).centre in
      let m_lt : m ≤ 2 ^ 24 = omega arith in
      let small : m * n ≤ 2 ^ 24 * 2 ^ 20 = mul-le-mul m_lt c.to in
      difference_exact (mantissa_of bits *₆₄ (row_at i).centre) (f64 0x3FF0000000000000) (pos (m * n)) (2 ^ 43) 43
      (lit< tt)
      (lt_of_le_of_lt (abs_difference (pos (m * n)) (2 ^ 43)) (omega arith)) (lit≤ tt)
      (product_exact (mantissa_of bits) (row_at i).centre (pos m) n 23 20 (omega (arith, c.from)) (omega arith)
      (lit≤ tt) mantissa_exact c.value)
      one_exact

-- ---- e
module _ (bits : ℕ) (wide : bits < 2 ^ 64) where
  field_exact : Exactly (of_int binary64 (pos (bits / 2 ^ 52))) (pos (bits / 2 ^ 52)) (2 ^ 0)
  unfolding of_int
  field_exact = round_whole binary64 false (bits / 2 ^ 52) (omega arith)

  exponent_exact : Exactly (exponent_of bits) (pos (bits / 2 ^ 52) -ℤ pos 1023) (2 ^ 0)
  exponent_exact =
      let k = bits / 2 ^ 52 in
      difference_exact (of_int binary64 (pos k)) (f64 0x408FF80000000000) (pos k) 1023 0 (lit< tt)
      (lt_of_le_of_lt (abs_difference (pos k) 1023) (omega arith)) (lit≤ tt) field_exact bias_exact

  pub high_exact : HighExact bits
  unfolding high_of
  high_exact =
      let i = row_of bits in
      let z = pos (bits / 2 ^ 52) -ℤ pos 1023 in
      let two = wholes 40 two_high in
      let h = (rule i (placed bits)).high in
      let e_le : nat_abs z ≤ 2 ^ 13 = le_trans (abs_difference (pos (bits / 2 ^ 52)) 1023) (omega arith) in
      let small : nat_abs z * two ≤ 2 ^ 13 * 2 ^ 39 = mul-le-mul e_le two_rule.to in
      sum_exact (exponent_of bits *₆₄ two_high) (row_at i).high (z *ℤ pos two) (pos (wholes 40 (row_at i).high)) 40
      (lt_of_le_of_lt (abs_sum (z *ℤ pos two) (pos (wholes 40 (row_at i).high)))
      (omega (arith, abs_product z two, h.to))) (lit≤ tt)
      (product_exact (exponent_of bits) two_high z two 0 40 two_rule.from (omega arith) (lit≤ tt) exponent_exact
      two_rule.value)
      h.value

-- ---- the bits of an f32 above zero, as an f64: the last 29 are zeros
shorter : (a k j : ℕ) → k + 29 ≤ j → a * 2 ^ j / 2 ^ k ≡ a * 2 ^ (j - k - 29) * 2 ^ 29
shorter a k j h =
    let whole : j - k - 29 + 29 + k ≡ j = omega arith in
    ap (λ (x : ℕ). a * 2 ^ x / 2 ^ k) (sym whole)
    ∙ ap (λ (x : ℕ). a * x / 2 ^ k) (pow-add 2 (j - k - 29 + 29) k)
    ∙ ap (λ (x : ℕ). x / 2 ^ k) (sym (mul_assoc a (2 ^ (j - k - 29 + 29)) (2 ^ k)))
    ∙ mul-div_cancel (a * 2 ^ (j - k - 29 + 29)) (pow_pos k)
    ∙ ap (λ (x : ℕ). a * x) (pow-add 2 (j - k - 29) 29)
    ∙ sym (mul_assoc a (2 ^ (j - k - 29)) (2 ^ 29))

-- a * 2^e in whole numbers of 2^-1074, by those of 2^-149
units : (a u d i : ℕ) → 0 < d → u * 2 ^ 149 ≡ 2 ^ i * d → a * u * 2 ^ 1074 / d ≡ a * 2 ^ (i + 925)
units a u d i D h =
    ap (λ (x : ℕ). x / d)
    (sym (mul_assoc (a * u) (2 ^ 149) (2 ^ 925))
    ∙ ap (λ (x : ℕ). x * 2 ^ 925) (mul_assoc a u (2 ^ 149) ∙ ap (λ (x : ℕ). a * x) h ∙ sym (mul_assoc a (2 ^ i) d))
    ∙ mul_right_comm (a * 2 ^ i) d (2 ^ 925)
    ∙ ap (λ (x : ℕ). x * d) (mul_assoc a (2 ^ i) (2 ^ 925) ∙ ap (λ (x : ℕ). a * x) (sym (pow-add 2 i 925))))
    ∙ mul-div_cancel (a * 2 ^ (i + 925)) D

ends_in_zeros : (k r q : ℕ) → r ≡ q * 2 ^ 29 → (0 + k * 2 ^ 52 + r) % 2 ^ 29 ≡ 0
ends_in_zeros k r q h = omega arith

zeros_behind : (x : Float) → T (fits binary32 x) → T (positive x) → to_bits binary64 x % 2 ^ 29 ≡ 0
unfolding to_bits
zeros_behind nan held above = absurd above
zeros_behind (inf s) held above = absurd above
zeros_behind (fin true m e) held above = absurd above
zeros_behind (fin false zero e) held above = absurd above
zeros_behind (fin false (suc m) e) held above =
    let says = fits_says binary32 false m e held in
    let at = place 149 e says.1 in
    let j = at.0 + 925 in
    let n = suc m * up e * 2 ^ 1074 / down e in
    let k = size n - 53 in
    let is : n ≡ suc m * 2 ^ j = units (suc m) (up e) (down e) at.0 (down_pos e) at.1 in
    let few : size n ≤ 24 + j =
    size-le n (24 + j) (subst (λ (x : ℕ). x < 2 ^ (24 + j)) (sym is) (shl_lt 24 j says.0)) in
    ends_in_zeros k (n / 2 ^ k) (suc m * 2 ^ (j - k - 29))
    (ap (λ (x : ℕ). x / 2 ^ k) is ∙ shorter (suc m) k j (omega arith))

exact : (x : Float) → T (fits binary32 x) → T (positive x) → Exact x
exact x held above =
    let bits = to_bits binary64 x in
    record {
      rest = rest_exact bits (zeros_behind x held above);
      high = high_exact bits (to_bits-lt binary64 x (fits_widens x held));
    }

pub claim : Claim
claim = record { ruled = rule; two = two_rule; exact = exact }

-- An `f64` rounded to an `f32` where it stands: `shortened_bits` has its pattern. What an `f32` holds is narrowed to
-- itself (`narrowed_held`). Assumes nothing.
use Rattle.std.specs.Prelude.{◌+◌, ◌-◌, ◌*◌, ◌/◌, ◌%◌, ◌^◌, ◌≤◌, ◌<◌, ◌≡◌}
use Rattle.rules.proofs.Common.{ℕ, zero, suc, Bool, true, false, not, refl, sym}
use Rattle.rules.proofs.Common.{ap, subst, ◌∙◌, T, Float}
use Rattle.rules.proofs.Common.{binary32, binary64, nan, inf, fin, up, down}
use Rattle.std.proofs.Common.{min, inl, inr, le_of_eq, lt_of_lt_of_le, lt_of_le_of_lt, mul_assoc}
use Rattle.std.proofs.Common.{lt_of_mul-lt-mul_right, mul-lt-mul_of_pos_right, zero-add, zero-mul, mul_right_comm}
use Rattle.std.proofs.Common.{arith, pow_pos, pow_mono, pow-add, shl_lt}
use lib.Ieee.{Format, low, round, is_nan, fits, of_bits, to_bits}
use lib.Ieee.Fits.{fits_widens, round-fits, nan-fits, inf-fits}
use lib.Ieee.Bits.{of_bits-to_bits, of_bits-fits}
use lib.Ieee.Exact.{HasValue, round_exact}
use lib.Ieee.Nearest.{closest, closest_mono}
use Rattle.floats.proofs.Rounded.{rounded}
use Rattle.numbers.specs.Narrowed.{narrowed}
use Rattle.numbers.specs.Private.{with_sign}
use Rattle.numbers.proofs.Closest.{closest_add}
use Rattle.numbers.proofs.Conversion.{bits_lt, narrowed_at, finite_narrows}
use Rattle.numbers.proofs.Held.{fits_says, place, held_units}
use Rattle.numbers.proofs.Pattern.{below_or_not, bits_of, pattern_value}

-- two that a format holds are one where sign and size are
held_same : (f : Format) (v w : Float) (s : Bool) (a : ℕ) → T (fits f v) → T (fits f w) → HasValue v s a (2 ^ low f)
    → HasValue w s a (2 ^ low f) → v ≡ w
held_same f v w s a p q h k =
    sym (of_bits-to_bits f v p) ∙ ap (of_bits f) (bits_of f v s a h ∙ sym (bits_of f w s a k)) ∙ of_bits-to_bits f w q

-- ---- an `f32` as an `f64`
finer : (v : Float) (s : Bool) (a c n : ℕ) → HasValue v s a c → HasValue v s (a * n) (c * n)
finer nan s a c n h = h
finer (inf t) s a c n h = h
finer (fin t m e) s a c n h =
    (h.0, sym (mul_assoc (m * up e) c n) ∙ ap (λ (x : ℕ). x * n) h.1 ∙ mul_right_comm a (down e) n)

-- with the field k + 1 and the digits q
module _ (s : Bool) (q k : ℕ) (lead : 2 ^ 23 ≤ q) (q-lt : q < 2 ^ 24) (k-le : k ≤ 253) where
  abbrev short : Float
  short = of_bits binary32 (with_sign binary32 s (k * 2 ^ 23 + q))

  abbrev long : Float
  long = of_bits binary64 (with_sign binary64 s ((k + 896) * 2 ^ 52 + q * 2 ^ 29))

  size_is : q * 2 ^ k * 2 ^ 925 ≡ q * 2 ^ 29 * 2 ^ (k + 896)
  size_is =
      let same : k + 925 ≡ 29 + (k + 896) = omega arith in
      mul_assoc q (2 ^ k) (2 ^ 925)
      ∙ ap (λ (x : ℕ). q * x) (sym (pow-add 2 k 925) ∙ ap (λ (x : ℕ). 2 ^ x) same ∙ pow-add 2 29 (k + 896))
      ∙ sym (mul_assoc q (2 ^ 29) (2 ^ (k + 896)))

  short_value : HasValue short s (q * 2 ^ 29 * 2 ^ (k + 896)) (2 ^ 1074)
  short_value =
      subst (λ (a : ℕ). HasValue short s a (2 ^ 1074)) size_is
      (finer short s (q * 2 ^ k) (2 ^ 149) (2 ^ 925)
      (pattern_value binary32 s q k (omega arith, λ K. lead)
      (lt_of_lt_of_le (shl_lt 24 k q-lt) (pow_mono {j = 277} (omega arith)))))

  long_value : HasValue long s (q * 2 ^ 29 * 2 ^ (k + 896)) (2 ^ 1074)
  long_value =
      let digits : q * 2 ^ 29 < 2 ^ 53 = omega arith in
      pattern_value binary64 s (q * 2 ^ 29) (k + 896) (omega arith, λ K. omega arith)
      (lt_of_lt_of_le (shl_lt 53 (k + 896) digits) (pow_mono {j = 2098} (omega arith)))

  widens : short ≡ long
  widens =
      held_same binary64 short long s (q * 2 ^ 29 * 2 ^ (k + 896))
      (fits_widens short (of_bits-fits binary32 (with_sign binary32 s (k * 2 ^ 23 + q))))
      (of_bits-fits binary64 (with_sign binary64 s ((k + 896) * 2 ^ 52 + q * 2 ^ 29)))
      short_value long_value

widened : (s : Bool) (c : ℕ) → 2 ^ 23 ≤ c → c < 255 * 2 ^ 23
    → of_bits binary32 (with_sign binary32 s c) ≡ of_bits binary64 (with_sign binary64 s (c * 2 ^ 29 + 896 * 2 ^ 52))
widened s c from to =
    let q = 2 ^ 23 + c % 2 ^ 23 in
    let k = c / 2 ^ 23 - 1 in
    let small : k * 2 ^ 23 + q ≡ c = omega arith in
    let large : (k + 896) * 2 ^ 52 + q * 2 ^ 29 ≡ c * 2 ^ 29 + 896 * 2 ^ 52 = omega arith in
    ap (λ (x : ℕ). of_bits binary32 (with_sign binary32 s x)) (sym small)
    ∙ widens s q k (omega arith) (omega arith) (omega arith)
    ∙ ap (λ (x : ℕ). of_bits binary64 (with_sign binary64 s x)) large

-- ---- a pattern without its sign, from 2 ^ -126 to below 2 ^ 127
module _ (a : ℕ) (from : 897 * 2 ^ 52 ≤ a) (to : a < 1150 * 2 ^ 52) where
  abbrev v : ℕ
  v = a - 896 * 2 ^ 52

  moved : closest a (2 ^ 29) ≡ 896 * 2 ^ 23 + closest v (2 ^ 29)
  moved =
      let whole : 896 * 2 ^ 23 * 2 ^ 29 + v ≡ a = omega arith in
      ap (λ (x : ℕ). closest x (2 ^ 29)) (sym whole) ∙ closest_add (896 * 2 ^ 23) v (2 ^ 29) (pow_pos 29) refl

  least : 2 ^ 23 ≤ closest v (2 ^ 29)
  least = closest_mono (2 ^ 52) (2 ^ 29) v (2 ^ 29) (pow_pos 29) (pow_pos 29) (omega arith)

  most : closest v (2 ^ 29) ≤ 254 * 2 ^ 23
  most = closest_mono v (2 ^ 29) (254 * 2 ^ 52) (2 ^ 29) (pow_pos 29) (pow_pos 29) (omega arith)

  pub few : closest a (2 ^ 29) ≤ 1150 * 2 ^ 23
  few = rw moved (omega (arith, most))

  short_pattern : (s : Bool)
      → of_bits binary64 (with_sign binary64 s (closest a (2 ^ 29) * 2 ^ 29))
      ≡ narrowed (of_bits binary64 (with_sign binary64 s a))
  short_pattern s =
      let c = closest v (2 ^ 29) in
      let up_to : min c (255 * 2 ^ 23) ≡ c = omega (arith, most) in
      let there : c * 2 ^ 29 + 896 * 2 ^ 52 ≡ closest a (2 ^ 29) * 2 ^ 29 = rw moved (omega arith) in
      sym
      (finite_narrows s a from (omega arith)
      ∙ ap (λ (x : ℕ). of_bits binary32 (with_sign binary32 s x)) up_to
      ∙ widened s c least (omega (arith, most))
      ∙ ap (λ (x : ℕ). of_bits binary64 (with_sign binary64 s x)) there)

-- ---- with the sign's bit
module _ (x : Float) (held : T (fits binary64 x)) (from : 897 * 2 ^ 52 ≤ to_bits binary64 x % 2 ^ 63)
    (to : to_bits binary64 x % 2 ^ 63 < 1150 * 2 ^ 52) where
  abbrev b : ℕ
  b = to_bits binary64 x

  signed : (s : Bool) → with_sign binary64 s (b % 2 ^ 63) ≡ b
      → closest b (2 ^ 29) * 2 ^ 29 ≡ with_sign binary64 s (closest (b % 2 ^ 63) (2 ^ 29) * 2 ^ 29)
  signed false e =
      let c = closest (b % 2 ^ 63) (2 ^ 29) in
      ap (λ (y : ℕ). closest y (2 ^ 29) * 2 ^ 29) (sym e ∙ zero-add (b % 2 ^ 63)) ∙ sym (zero-add (c * 2 ^ 29))
  signed true e =
      let c = closest (b % 2 ^ 63) (2 ^ 29) in
      let split : 2 ^ 34 * 2 ^ 29 + b % 2 ^ 63 ≡ b = e in
      ap (λ (y : ℕ). closest y (2 ^ 29) * 2 ^ 29) (sym split)
      ∙ rw (closest_add (2 ^ 34) (b % 2 ^ 63) (2 ^ 29) (pow_pos 29) refl) (omega arith)

  at_sign : (s : Bool) → with_sign binary64 s (b % 2 ^ 63) ≡ b
      → of_bits binary64 (closest b (2 ^ 29) * 2 ^ 29) ≡ narrowed x
  at_sign s e =
      ap (of_bits binary64) (signed s e) ∙ short_pattern (b % 2 ^ 63) from to s
      ∙ ap narrowed (ap (of_bits binary64) e ∙ of_bits-to_bits binary64 x held)

  -- no NaN's pattern, since the sign's bit is left where it was
  pub shortened_real : closest b (2 ^ 29) * 2 ^ 29 % 2 ^ 63 ≤ 2047 * 2 ^ 52
  shortened_real = elim (below_or_not b (2 ^ 63)) [
    | inl l ↦ rw (signed false (omega arith)) (omega (arith, few (b % 2 ^ 63) from to))
    | inr g ↦ rw (signed true (omega (arith, bits_lt x held))) (omega (arith, few (b % 2 ^ 63) from to))
  ]

  pub shortened_bits : of_bits binary64 (closest b (2 ^ 29) * 2 ^ 29) ≡ narrowed x
  shortened_bits = elim (below_or_not b (2 ^ 63)) [
    | inl l ↦ at_sign false (omega arith)
    | inr g ↦ at_sign true (omega (arith, bits_lt x held))
  ]

-- ---- what an `f32` holds
pub narrowed_fits : (x : Float) → T (fits binary32 (narrowed x))
unfolding narrowed
narrowed_fits nan = nan-fits binary32
narrowed_fits (inf s) = inf-fits binary32 s
narrowed_fits (fin s m e) = round-fits binary32 s (m * up e) (down e)

-- and is a NaN only where that is one
pub narrowed_real : (x : Float) → T (not (is_nan x)) → T (not (is_nan (narrowed x)))
unfolding narrowed is_nan
narrowed_real nan h = elim h [ ]
narrowed_real (inf s) h = tt
narrowed_real (fin s m e) h = rounded binary32 s (λ y. T (not (is_nan y))) tt (λ n d. tt) (m * up e) (down e)

stays : (x : Float) (s : Bool) (z : ℕ) → T (fits binary32 x) → HasValue x s z (2 ^ 149) → z < 2 ^ 277 → narrowed x ≡ x
stays x s z h v l =
    let u = held_units binary32 x s z h v in
    narrowed_at x s z (2 ^ 149) (pow_pos 149) v
    ∙ held_same binary32 (round binary32 s z (2 ^ 149)) x s z (round-fits binary32 s z (2 ^ 149)) h
    (round_exact binary32 s z (2 ^ 149) u.0 u.1 (pow_pos 149) u.2 (subst (λ (y : ℕ). y < 2 ^ 277) u.3 l)
    (ap (λ (y : ℕ). y * 2 ^ 149) u.3))
    v

pub narrowed_held : (x : Float) → T (fits binary32 x) → narrowed x ≡ x
unfolding narrowed
narrowed_held nan h = refl
narrowed_held (inf s) h = refl
narrowed_held (fin s zero e) h = stays (fin s zero e) s 0 h (refl, simp zero-mul) (pow_pos 277)
narrowed_held (fin s (suc m) e) h =
    let says = fits_says binary32 s m e h in
    let at = place 149 e says.1 in
    let value : suc m * up e * 2 ^ 149 ≡ suc m * 2 ^ at.0 * down e = mul_assoc (suc m) (up e) (2 ^ 149)
    ∙ ap (λ (x : ℕ). suc m * x) at.1 ∙ sym (mul_assoc (suc m) (2 ^ at.0) (down e)) in
    stays (fin s (suc m) e) s (suc m * 2 ^ at.0) h (refl, value)
    (lt_of_mul-lt-mul_right (down e)
    (lt_of_le_of_lt (le_of_eq (sym value))
    (lt_of_lt_of_le (mul-lt-mul_of_pos_right says.2 (pow_pos 149))
    (le_of_eq (mul_right_comm (2 ^ 128) (down e) (2 ^ 149))))))

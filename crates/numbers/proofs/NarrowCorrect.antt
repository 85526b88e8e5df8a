-- `narrowed` is correctly rounded: no `f32` is nearer to the `f64` than the one that it gives, and of two that are as
-- near it gives the one whose last digit is even (`narrowed_correct`). An infinity counts as 2 ^ 128, as IEEE 754 has
-- it. It is shown of `round`, over the format (`round_correct`). Assumes nothing.
use Rattle.std.specs.Prelude.{◌+◌, ◌-◌, ◌*◌, ◌/◌, ◌%◌, ◌^◌, ◌≤◌, ◌<◌, ◌≡◌}
use Rattle.rules.proofs.Common.{ℕ, zero, suc, Bool, true, false, cond}
use Rattle.rules.proofs.Common.{refl, sym, ap, subst, ◌∙◌, T}
use Rattle.rules.proofs.Common.{Float, binary32, nan, inf, fin, up, down}
use Rattle.std.proofs.Common.{inl, inr, le_trans, le_of_eq, le_refl, lt_of_lt_of_le, lt_of_le_of_lt, le_of_lt}
use Rattle.std.proofs.Common.{mul-le-mul_right, mul_assoc, mul_comm, add-mul, lt_of_mul-lt-mul_right, eq-or-lt_of_le}
use Rattle.std.proofs.Common.{mul-lt-mul_of_pos_right, mul-pos, le-div_iff_mul-le, zero-mul, mul_right_comm}
use Rattle.std.proofs.Common.{not-le_of_lt, mul_left_comm, arith, pow_pos, pow-add, le-ltb}
use native.Mathlib.Nat.{eq_of_mul-eq-mul_right}
use lib.Pow.{pow-lt}
use lib.Ieee.{Format, prec, emax, low, size, odd, units, round, fits}
use lib.Ieee.Digits.{size_reaches}
use lib.Ieee.Fits.{two, two-le_pos, down_pos, round_is, round-fits}
use lib.Ieee.Exact.{HasValue, units_val}
use lib.Ieee.Nearest.{closest_same}
use lib.Ieee.Order.{drop, kept}
use lib.Ieee.Scale.{overflow}
use Rattle.numbers.specs.Laws.{KeptDigits, gap, distance, Stands, Nearest, RoundsRight, NarrowsRight}
use Rattle.numbers.specs.Narrowed.{narrowed}
use Rattle.numbers.proofs.Closest.{Within, closest_near}
use Rattle.numbers.proofs.Held.{fits_says, held_units}
use Rattle.numbers.proofs.Neighbours.{next_above, next_below, even_power}
use Rattle.numbers.proofs.Pattern.{below_or_not, all_in_use, kept_whole, reaches}

-- ---- three numbers: x is at most half way from y to z, and where it is just half way, q is even
record Halves (x q y z : ℕ) : Type 0 where
  above : y < z → (2 * x ≤ y + z) × (2 * x ≡ y + z → q % 2 ≡ 0)
  below : z < y → (y + z ≤ 2 * x) × (y + z ≡ 2 * x → q % 2 ≡ 0)

gap_le : (x q y z : ℕ) → Halves x q y z → gap x y ≤ gap x z
gap_le x q y z h = elim (below_or_not y z) [
  | inl l ↦ omega (arith, (h.above l).0)
  | inr g ↦ elim (eq-or-lt_of_le g) [
    | inl e ↦ omega arith
    | inr m ↦ omega (arith, (h.below m).0)
  ]
]

gap_even : (x q y z : ℕ) → Halves x q y z → gap x y ≡ gap x z → (z ≡ y → ⊥) → q % 2 ≡ 0
gap_even x q y z h e other = elim (below_or_not y z) [
  | inl l ↦ (h.above l).1 (omega (arith, (h.above l).0))
  | inr g ↦ elim (eq-or-lt_of_le g) [
    | inl s ↦ absurd (other s)
    | inr m ↦ (h.below m).1 (omega (arith, (h.below m).0))
  ]
]

-- the other sign is further away than 0 is
sides_le : (s t : Bool) (x q y z : ℕ) → Halves x q y 0 → Halves x q y z → distance s x s y ≤ distance s x t z
sides_le true true x q y z none h = gap_le x q y z h
sides_le false false x q y z none h = gap_le x q y z h
sides_le true false x q y z none h = omega (arith, gap_le x q y 0 none)
sides_le false true x q y z none h = omega (arith, gap_le x q y 0 none)

sides_even : (s t : Bool) (x q y z : ℕ) → Halves x q y 0 → Halves x q y z → distance s x s y ≡ distance s x t z
    → (z ≡ y → ⊥) → q % 2 ≡ 0
sides_even true true x q y z none h e other = gap_even x q y z h e other
sides_even false false x q y z none h e other = gap_even x q y z h e other
sides_even true false x q y z none h e other =
    gap_even x q y 0 none (omega (arith, gap_le x q y 0 none)) (λ w. other (omega (arith, gap_le x q y 0 none)))
sides_even false true x q y z none h e other =
    gap_even x q y 0 none (omega (arith, gap_le x q y 0 none)) (λ w. other (omega (arith, gap_le x q y 0 none)))

-- ---- the values of a format, as numbers of its smallest one: a * 2 ^ j, and none is past `overflow`
abbrev Unit : Format → ℕ → Type 0
Unit f Z = ((a : ℕ) × (j : ℕ) × (a < 2 ^ prec f) × (Z ≡ a * 2 ^ j)) × (Z ≤ overflow f)

overflow_is : (f : Format) → overflow f ≡ 2 ^ (prec f - 1) * 2 ^ (2 * emax f)
overflow_is f = ap (λ (x : ℕ). 2 ^ x) (reaches f) ∙ pow-add 2 (prec f - 1) (2 * emax f)

lead_lt : (f : Format) → 2 ^ (prec f - 1) < 2 ^ prec f
lead_lt f = pow-lt (less (prec f) (two f))
  where
    less : (p : ℕ) → 2 ≤ p → p - 1 < p
    less p h = omega arith

at_overflow : (f : Format) (Z : ℕ) → Z ≡ overflow f → Unit f Z
at_overflow f Z e = ((2 ^ (prec f - 1), 2 * emax f, lead_lt f, e ∙ overflow_is f), le_of_eq e)

stands_unit : (f : Format) (z : Float) (t : Bool) (Z : ℕ) → T (fits f z) → Stands f z t Z → Unit f Z
stands_unit f nan t Z h v = absurd v
stands_unit f (inf s) t Z h v = at_overflow f Z v.1
stands_unit f (fin s zero e) t Z h v =
    let u = held_units f (fin s zero e) t Z h v in (
      u,
      le_trans
          (le_of_eq (eq_of_mul-eq-mul_right (down e) (down_pos e) Z 0
          (sym v.1 ∙ ap (λ (x : ℕ). x * 2 ^ low f) (zero-mul (up e)) ∙ zero-mul (2 ^ low f)
          ∙ sym (zero-mul (down e))))) (le_of_lt (pow_pos (low f + suc (emax f)))),
    )
stands_unit f (fin s (suc m) e) t Z h v = (
  held_units f (fin s (suc m) e) t Z h v,
  le_of_lt
      (lt_of_mul-lt-mul_right (down e)
      (lt_of_le_of_lt (le_of_eq (sym v.1))
      (lt_of_lt_of_le (mul-lt-mul_of_pos_right (fits_says f s m e h).2 (pow_pos (low f)))
      (le_of_eq (mul_right_comm (2 ^ suc (emax f)) (down e) (2 ^ low f)
      ∙ ap (λ (x : ℕ). x * down e)
      (mul_comm (2 ^ suc (emax f)) (2 ^ low f) ∙ sym (pow-add 2 (low f) (suc (emax f))))))))),
)

-- ---- what `round` keeps: q * 2 ^ k units are nearest to n / den, were there no largest value
module _ (f : Format) (n den : ℕ) (D : 0 < den) where
  P : 0 < prec f
  P = two-le_pos (prec f) (two f)

  k : ℕ
  k = drop (prec f) n den

  q : ℕ
  unfolding k
  q = kept (prec f) n den

  whole : KeptDigits (prec f) q k
  unfolding q k
  whole = kept_whole (prec f) n den P

  -- twice n, and q times twice the unit
  near : Within (2 * n) (den * 2 ^ k) q
  unfolding q k
  near =
      let u = den * 2 ^ drop (prec f) n den in
      let U : 0 < u = mul-pos D (pow_pos (drop (prec f) n den)) in
      subst (Within (2 * n) u)
      (closest_same (2 * n) (2 * u) n u (omega arith) U (mul_right_comm 2 n u ∙ mul_comm (2 * u) n))
      (closest_near (2 * n) u U)

  -- where digits are dropped, the leading one stands before them
  reached : 0 < k → 2 ^ (prec f - 1) * 2 ^ k * den ≤ n
  unfolding k
  reached K =
      let j = drop (prec f) n den in
      le_trans (le_of_eq (ap (λ (x : ℕ). x * den) (sym (pow-add 2 (prec f - 1) j))))
      ((le-div_iff_mul-le D).0 (size_reaches (n / den) (prec f - 1 + j) (all_in_use (size (n / den)) (prec f) P K)))

  halves : (Z : ℕ) → ((a : ℕ) × (j : ℕ) × (a < 2 ^ prec f) × (Z ≡ a * 2 ^ j)) → Halves n q (q * 2 ^ k * den) (Z * den)
  halves Z v =
      let Y = q * 2 ^ k in
      let u = den * 2 ^ k in
      let A = Y * den in
      let B = Z * den in
      let twice : q * (2 * u) ≡ 2 * A = simp (mul_assoc, mul_comm, mul_left_comm) in
      let unit : 2 ^ k * den ≡ u = mul_comm (2 ^ k) den in
      let is = v.3 in
      record {
        above = λ l.
            let more : Y < Z = lt_of_mul-lt-mul_right den l in
            let next : Y + 2 ^ k ≤ Z =
            rw is (next_above (prec f) q k P whole.1 v.0 v.1 v.2 (rw is at more)) in
            let far : A + u ≤ B = le_trans (le_of_eq (sym (add-mul Y (2 ^ k) den ∙ ap (λ (x : ℕ). A + x) unit)))
            (mul-le-mul_right den next) in
            (omega (arith, near.1), λ tie. near.3 (omega (arith, near.1)));
        below = λ l.
            let less : Z < Y = lt_of_mul-lt-mul_right den l in
            elim (next_below (prec f) q k P whole.1 v.0 v.1 v.2 (rw is at less)) [
              | inl g ↦
                  let next : Z + 2 ^ k ≤ Y = rw is g in
                  let far : B + u ≤ A = le_trans (le_of_eq (sym (add-mul Z (2 ^ k) den ∙ ap (λ (x : ℕ). B + x) unit)))
                  (mul-le-mul_right den next) in
                  (omega (arith, near.0), λ tie. near.2 (omega (arith, near.0)))
              | inr e ↦
                  let all : A ≤ n = subst (λ (x : ℕ). x * 2 ^ k * den ≤ n) (sym e.1) (reached e.0) in
                  (omega arith, λ tie. ap (λ (x : ℕ). x % 2) e.1 ∙ even_power (prec f) (two f))
            ];
      }

infinite : (f : Format) (s : Bool) (q k : ℕ) → overflow f ≤ q * 2 ^ k → units f s q k ≡ inf s
unfolding units
infinite f s q k g =
    ap (λ (b : Bool). cond b (odd (suc (prec f)) s q k (low f)) (inf s)) (le-ltb (q * 2 ^ k) (overflow f) g)

-- ---- with a largest value: from `overflow` on it is an infinity
module _ (f : Format) (s : Bool) (num den : ℕ) (D : 0 < den) where
  n : ℕ
  n = num * 2 ^ low f

  -- from numbers of units to values
  from_halves : (y : Float) (Y q k : ℕ) → T (fits f y) → Stands f y s Y → (Y ≡ q * 2 ^ k) × KeptDigits (prec f) q k
      → ((Z : ℕ) → Unit f Z → Halves n q (Y * den) (Z * den)) → Nearest f s num den y
  unfolding n
  from_halves y Y q k h v d all =
      let none : Halves n q (Y * den) 0 = subst (Halves n q (Y * den)) (zero-mul den)
      (all 0 ((0, 0, pow_pos (prec f), refl), le_of_lt (pow_pos (low f + suc (emax f))))) in
      record {
        Y = Y;
        q = q;
        k = k;
        held = h;
        stands = v;
        digits = d;
        nearest = λ z t Z held w. sides_le s t n q (Y * den) (Z * den) none (all Z (stands_unit f z t Z held w));
        even =
            λ z t Z held w e other. sides_even s t n q (Y * den) (Z * den) none (all Z (stands_unit f z t Z held w)) e
            (λ same. other (eq_of_mul-eq-mul_right den D Z Y same));
      }

  Q : ℕ
  unfolding n
  Q = q f n den D

  K : ℕ
  unfolding n
  K = k f n den D

  kept_is : round f s num den ≡ units f s Q K
  unfolding n Q K q k
  kept_is = round_is f s num den

  stands_of : (y : Float) (Y : ℕ) → HasValue y s Y (2 ^ low f) → Stands f y s Y
  stands_of nan Y v = v
  stands_of (inf t) Y v = absurd v
  stands_of (fin t m e) Y v = v

  under : Q * 2 ^ K < overflow f → Nearest f s num den (round f s num den)
  unfolding Q K
  under l =
      from_halves (round f s num den) (Q * 2 ^ K) Q K (round-fits f s num den)
      (subst (λ (y : Float). Stands f y s (Q * 2 ^ K)) (sym kept_is)
      (stands_of (units f s Q K) (Q * 2 ^ K) (units_val f s Q K l)))
      (refl, whole f n den D)
      (λ Z u. halves f n den D Z u.0)

  over : overflow f ≤ Q * 2 ^ K → Nearest f s num den (round f s num den)
  unfolding Q K
  over g =
      let O = overflow f in
      from_halves (round f s num den) O (2 ^ (prec f - 1)) (2 * emax f) (round-fits f s num den)
      (subst (λ (y : Float). Stands f y s O) (sym (kept_is ∙ infinite f s Q K g)) (refl, refl))
      (overflow_is f, (le_of_lt (lead_lt f), λ some. le_refl (2 ^ (prec f - 1))))
      (λ Z u. record {
        above = λ l. absurd (not-le_of_lt l (mul-le-mul_right den u.1));
        below = λ l. (far Z u l, λ tie. even_power (prec f) (two f));
      })
    where
      far : (Z : ℕ) → Unit f Z → Z * den < overflow f * den → overflow f * den + Z * den ≤ 2 * n
      far Z u l = elim (eq-or-lt_of_le g) [
        | inl e ↦ subst (λ (x : ℕ). x * den + Z * den ≤ 2 * n) (sym e)
            ((halves f n den D Z u.0).below (subst (λ (x : ℕ). Z * den < x * den) e l)).0
        | inr m ↦
            omega (
              arith,
              ((halves f n den D (overflow f) (at_overflow f (overflow f) refl).0).below
                  (mul-lt-mul_of_pos_right m D)).0,
              mul-lt-mul_of_pos_right m D,
            )
      ]

pub round_correct : RoundsRight
round_correct f s num den D = elim (below_or_not (Q f s num den D * 2 ^ K f s num den D) (overflow f)) [
  | inl l ↦ under f s num den D l
  | inr g ↦ over f s num den D g
]

pub narrowed_correct : NarrowsRight
unfolding narrowed
narrowed_correct s m e = round_correct binary32 s (m * up e) (down e) (down_pos e)

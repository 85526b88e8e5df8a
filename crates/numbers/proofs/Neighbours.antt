-- Which numbers of units a format holds: a * 2 ^ t, with a of p digits. Of those, none lies within 2 ^ k of q * 2 ^ k,
-- but just below a power of two.
-- q is what `round` keeps, and k is how many digits it drops. Assumes nothing.
use Rattle.std.specs.Prelude.{◌+◌, ◌-◌, ◌*◌, ◌%◌, ◌^◌, ◌≤◌, ◌<◌, ◌≡◌}
use Rattle.rules.proofs.Common.{ℕ, suc, sym, ap, ◌∙◌}
use Rattle.std.proofs.Common.{◌⊎◌, inl, inr, le_trans, le_of_eq, le_refl, lt_of_lt_of_le, lt_of_le_of_lt, le_of_lt}
use Rattle.std.proofs.Common.{add-le-add, mul-le-mul_right, mul_assoc, suc-mul, lt_of_mul-lt-mul_right, eq-or-lt_of_le}
use Rattle.std.proofs.Common.{pow-suc, sub-add_cancel, not-le_of_lt, arith, pow_mono, pow-add, shl_lt}
use native.Mathlib.Nat.{mul-mod_left}
use Rattle.numbers.proofs.Pattern.{below_or_not}

module _ (p q k : ℕ) (P : 0 < p) (lead : 0 < k → 2 ^ (p - 1) ≤ q) (a t : ℕ) (a_lt : a < 2 ^ p) where
  -- a multiple of 2 ^ k, or below each q * 2 ^ k
  grid : ((c : ℕ) × (a * 2 ^ t ≡ c * 2 ^ k)) ⊎ ((0 < k) × (a * 2 ^ t < 2 ^ (p - 1) * 2 ^ k))
  grid = elim (below_or_not t k) [
    | inl l ↦
        inr (
          omega arith,
          lt_of_lt_of_le (shl_lt p t a_lt)
              (le_trans (pow_mono {i = p + t} {j = p - 1 + k} (omega arith)) (le_of_eq (pow-add 2 (p - 1) k))),
        )
    | inr g ↦
        inl (
          a * 2 ^ (t - k),
          ap (λ (y : ℕ). a * y) (ap (λ (y : ℕ). 2 ^ y) (sym (sub-add_cancel g)) ∙ pow-add 2 (t - k) k)
              ∙ sym (mul_assoc a (2 ^ (t - k)) (2 ^ k)),
        )
  ]

  pub next_above : q * 2 ^ k < a * 2 ^ t → q * 2 ^ k + 2 ^ k ≤ a * 2 ^ t
  next_above h = elim grid [
    | inl c ↦ le_trans (le_of_eq (sym (suc-mul q (2 ^ k))))
        (le_trans (mul-le-mul_right (2 ^ k) (lt_of_mul-lt-mul_right (2 ^ k) (lt_of_lt_of_le h (le_of_eq c.1))))
        (le_of_eq (sym c.1)))
    | inr l ↦ absurd (not-le_of_lt (lt_of_lt_of_le l.1 (mul-le-mul_right (2 ^ k) (lead l.0))) (le_of_lt h))
  ]

  pub next_below : a * 2 ^ t < q * 2 ^ k → (a * 2 ^ t + 2 ^ k ≤ q * 2 ^ k) ⊎ ((0 < k) × (q ≡ 2 ^ (p - 1)))
  next_below h = elim grid [
    | inl c ↦
        inl (le_trans (le_of_eq (ap (λ (y : ℕ). y + 2 ^ k) c.1 ∙ sym (suc-mul c.0 (2 ^ k))))
        (mul-le-mul_right (2 ^ k) (lt_of_mul-lt-mul_right (2 ^ k) (lt_of_le_of_lt (le_of_eq (sym c.1)) h))))
    | inr l ↦ elim (eq-or-lt_of_le (lead l.0)) [
      | inl e ↦ inr (l.0, sym e)
      | inr g ↦
          inl (le_trans (add-le-add (le_of_lt l.1) (le_refl (2 ^ k)))
          (le_trans (le_of_eq (sym (suc-mul (2 ^ (p - 1)) (2 ^ k)))) (mul-le-mul_right (2 ^ k) g)))
    ]
  ]

pub even_power : (p : ℕ) → 2 ≤ p → 2 ^ (p - 1) % 2 ≡ 0
even_power p h =
    ap (λ (y : ℕ). 2 ^ y % 2) (pred p h) ∙ ap (λ (y : ℕ). y % 2) (pow-suc 2 (p - 2)) ∙ mul-mod_left (2 ^ (p - 2)) 2
  where
    pred : (p : ℕ) → 2 ≤ p → p - 1 ≡ suc (p - 2)
    pred p h = omega arith

-- What is rounded is an infinity or a finite value, of the sign that it was given (`rounded`). So it is no NaN
-- (`round_no_nan`), and a number times a factor above zero is none (`mul_no_nan`). Nothing is rounded to a zero
-- (`zero_rounds`). Assumes nothing.
use Rattle.std.specs.Prelude.{◌+◌, ◌*◌, ◌^◌, ◌<◌, ◌≡◌}
use Rattle.rules.proofs.Common.{ℕ, zero, suc, Bool, true, false, cond, refl, sym, ◌∙◌, ltb}
use Rattle.rules.proofs.Common.{Float, nan, inf, fin, up, down}
use native.Mathlib.Nat.{zero-mul}
use lib.Dec.{eqb-suc-zero}
use lib.IntN.{ℤ}
use lib.Pow.{pow_pos}
use lib.Ieee.{Format, prec, emax, low, unlike, odd, units, round, mul, is_nan}
use lib.Ieee.Exact.{HasValue, round_exact}

module _ (f : Format) (s : Bool) (P : Float → Type 0) (infinite : P (inf s))
    (finite : (m : ℕ) (e : ℤ) → P (fin s m e)) where
  by_odd : (q k : ℕ) → P (odd (suc (prec f)) s q k (low f))
  unfolding odd
  by_odd zero k = finite _ _
  by_odd (suc q) k = finite _ _

  by_units : (q k : ℕ) → P (units f s q k)
  unfolding units
  by_units q k = go (ltb (q * 2 ^ k) (2 ^ (low f + suc (emax f))))
    where
      go : (b : Bool) → P (cond b (odd (suc (prec f)) s q k (low f)) (inf s))
      go true = by_odd q k
      go false = infinite

  pub rounded : (a b : ℕ) → P (round f s a b)
  unfolding round
  rounded a b = by_units _ _

round_no_nan : (f : Format) (s : Bool) (a b : ℕ) → is_nan (round f s a b) ≡ false
unfolding is_nan
round_no_nan f s = rounded f s (λ x. is_nan x ≡ false) refl (λ m e. refl)

pub mul_no_nan : (f : Format) (m : ℕ) (d : ℤ) (x : Float) → is_nan x ≡ false
    → is_nan (mul f (fin false (suc m) d) x) ≡ false
unfolding mul is_nan
mul_no_nan f m d nan h = h
mul_no_nan f m d (inf s) h = rw (eqb-suc-zero m)
mul_no_nan f m d (fin s n e) h = round_no_nan f (unlike false s) (suc m * up d * (n * up e)) (down d * down e)

pub zero_rounds : (f : Format) (s : Bool) (b : ℕ) → 0 < b → HasValue (round f s 0 b) s 0 b
zero_rounds f s b above =
    round_exact f s 0 b 0 0 above (pow_pos (prec f)) (pow_pos (low f + suc (emax f)))
    (zero-mul (2 ^ low f) ∙ sym (zero-mul b))

-- A test of two floats that antt computes, and that it means that they are equal (`floats`). Assumes nothing.
use Rattle.std.specs.Prelude.{◌&&◌, ◌≡◌}
use Rattle.rules.proofs.Common.{Bool, true, false, refl, ap, eqb, T, pos, Float, nan, inf, fin}
use lib.Dec.{eqb→eq}
use lib.IntN.{ℤ, negsuc}
use lib.Ieee.Fits.{and_l, and_r}

abbrev same_sign : Bool → Bool → Bool
same_sign true true = true
same_sign false false = true
same_sign true false = false
same_sign false true = false

abbrev same_power : ℤ → ℤ → Bool
same_power (pos m) (pos n) = eqb m n
same_power (negsuc m) (negsuc n) = eqb m n
same_power (pos m) (negsuc n) = false
same_power (negsuc m) (pos n) = false

-- of numbers: it says no to an infinity and to a NaN
abbrev pub same : Float → Float → Bool
same (fin s m e) (fin t n f) = same_sign s t && (eqb m n && same_power e f)
same (fin s m e) nan = false
same (fin s m e) (inf t) = false
same nan y = false
same (inf s) y = false

signs : (s t : Bool) → T (same_sign s t) → s ≡ t
signs true true h = refl
signs false false h = refl
signs true false h = absurd h
signs false true h = absurd h

powers : (x y : ℤ) → T (same_power x y) → x ≡ y
powers (pos m) (pos n) h = ap pos (eqb→eq m n h)
powers (negsuc m) (negsuc n) h = ap negsuc (eqb→eq m n h)
powers (pos m) (negsuc n) h = absurd h
powers (negsuc m) (pos n) h = absurd h

pub floats : (x y : Float) → T (same x y) → x ≡ y
floats (fin s m e) (fin t n f) h =
    let a = signs s t (and_l (same_sign s t) _ h) in
    let r = and_r (same_sign s t) (eqb m n && same_power e f) h in
    let b = eqb→eq m n (and_l (eqb m n) _ r) in
    let c = powers e f (and_r (eqb m n) (same_power e f) r) in
    cc
floats (fin s m e) nan h = absurd h
floats (fin s m e) (inf t) h = absurd h
floats nan y h = absurd h
floats (inf s) y h = absurd h

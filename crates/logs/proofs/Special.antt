-- `log10_of` by what the tests `x > 0.0`, `x == 1.0 / 0.0` and `x == 0.0` tell. Assumes nothing.
use Rattle.std.specs.Prelude.{◌≡◌}
use Rattle.rules.proofs.Common.{zero, suc, Bool, true, false, true≢false, false≢true, refl, T, Float, binary64}
use Rattle.rules.proofs.Common.{nan, inf, fin}
use lib.Ieee.{to_bits, eq}
use lib.Ieee.Positive.{above}
use Rattle.numbers.specs.Narrowed.{narrowed}
use Rattle.numbers.proofs.Special.{Zero, Below}
use Rattle.logs.specs.Log10.{log_of_bits, log10_of}

pub log_of_zero : (x : Float) → Zero x → inf true ≡ log10_of x
unfolding log10_of
log_of_zero nan z = absurd z
log_of_zero (inf s) z = absurd z
log_of_zero (fin s zero e) z = refl
log_of_zero (fin s (suc m) e) z = absurd z

pub no_log : (x : Float) → Below x → nan ≡ log10_of x
unfolding log10_of
no_log nan b = refl
no_log (inf true) b = refl
no_log (inf false) b = absurd b
no_log (fin s zero e) b = absurd b
no_log (fin true (suc m) e) b = refl
no_log (fin false (suc m) e) b = absurd b

pub log_of_infinity : (x : Float) → eq x (inf false) ≡ true → x ≡ log10_of x
unfolding eq log10_of
log_of_infinity nan h = absurd (false≢true h)
log_of_infinity (inf true) h = absurd (false≢true h)
log_of_infinity (inf false) h = refl
log_of_infinity (fin s m e) h = absurd (false≢true h)

pub log_above : (x : Float) → T (above x) → eq x (inf false) ≡ false
    → narrowed (log_of_bits (to_bits binary64 x)) ≡ log10_of x
unfolding eq log10_of
log_above nan a h = absurd a
log_above (inf true) a h = absurd a
log_above (inf false) a h = absurd (true≢false h)
log_above (fin s zero e) a h = absurd (none s a)
  where
    none : (s : Bool) → T (above (fin s zero e)) → ⊥
    none true a = a
    none false a = a
log_above (fin true (suc m) e) a h = absurd a
log_above (fin false (suc m) e) a h = refl

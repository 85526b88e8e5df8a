-- The last step by its cases: t stays where it is a NaN, off every midpoint of two f32, or lost nothing; else it moves
-- by one bit, and stays a number. Assumes nothing.
use Rattle.std.specs.Prelude.{◌+◌, ◌-◌, ◌*◌, ◌%◌, ◌^◌, ◌≤◌, ◌<◌, ◌&&◌, ◌≡◌}
use Rattle.rules.proofs.Common.{ℕ, Bool, true, false, cond, not, refl}
use Rattle.rules.proofs.Common.{eqb, T, Float, binary64, nan, lt}
use Rattle.rules.proofs.Common.{is_nan}
use mathlib.Core.Bool.{beq}
use native.Mathlib.Omega.{arith}
use lib.Ieee.{fits, nan_bits, to_bits, eq, ne}
use lib.Ieee.Bits.{to_bits-lt}
use borrow.Author.Tests.{eq-eqb, ne_eqb}
use Rattle.numbers.proofs.NoNan.{magnitude_le, real_pattern}
use Rattle.rules.specs.F64.{f64}
use Rattle.logs.specs.Log10.{nudged}

module _ (t z : Float) where
  abbrev bits : ℕ
  bits = to_bits binary64 t

  pub broken : t ≡ nan → nudged t z ≡ t
  unfolding nudged to_bits
  broken e = rw e

  pub off_middle : (bits % 2 ^ 29 ≡ 2 ^ 28 → ⊥) → nudged t z ≡ t
  unfolding nudged
  off_middle h = rw (ne_eqb (bits % 2 ^ 29) (2 ^ 28) h)

  pub nothing_lost : eq z (f64 0) ≡ true → nudged t z ≡ t
  unfolding nudged ne
  nothing_lost h = rw h (go _ (eqb (bits % 2 ^ 29) (2 ^ 28)))
    where
      go : (x : Float) (b : Bool) → cond (b && false) x t ≡ t
      go x true = refl
      go x false = refl

  pub moved : (s : Bool) → bits % 2 ^ 29 ≡ 2 ^ 28 → eq z (f64 0) ≡ false → beq (lt (f64 0) z) (lt (f64 0) t) ≡ s
      → nudged t z ≡ f64 (cond s (bits + 1) (bits - 1))
  unfolding nudged ne
  moved s middle lost way = rw (eq-eqb (bits % 2 ^ 29) (2 ^ 28) middle, lost, way)

-- the patterns next to that of t, on a midpoint, are no NaN's
pub record Beside (t : Float) : Type 0 where
  pub room : to_bits binary64 t + 1 < 2 ^ 64
  pub up : T (not (nan_bits binary64 (to_bits binary64 t + 1)))
  pub down : T (not (nan_bits binary64 (to_bits binary64 t - 1)))

pub beside : (t : Float) → T (fits binary64 t) → T (not (is_nan t)) → to_bits binary64 t % 2 ^ 29 ≡ 2 ^ 28 → Beside t
beside t held real middle =
    let bits = to_bits binary64 t in
    let within : bits % 2 ^ 63 ≤ 2047 * 2 ^ 52 = magnitude_le binary64 t held real in
    record {
      room = omega (arith, to_bits-lt binary64 t held);
      up = real_pattern binary64 (bits + 1) (omega arith);
      down = real_pattern binary64 (bits - 1) (omega arith);
    }

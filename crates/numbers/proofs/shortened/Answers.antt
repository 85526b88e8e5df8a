-- `numbers::shortened` meets its contract. Assumes nothing.
use Rattle.std.specs.Prelude.{◌*◌, ◌%◌, ◌^◌, ◌<◌, ◌≤◌, ◌≡◌}
use Rattle.rules.proofs.Common.{ℕ, true, not, sym, ap, subst, ◌∙◌, T, Float, binary64}
use Rattle.std.proofs.Common.{arith, pow_pos}
use lib.Ieee.{fits, div, nan_bits, of_bits, to_bits}
use lib.Ieee.Compare.{differs_from_itself}
use lib.Ieee.Nearest.{closest, closest_mono}
use Rattle.numbers.specs.Narrowed.{narrowed}
use Rattle.numbers.proofs.NoNan.{real_of, real_pattern}
use Rattle.numbers.proofs.Conversion.{bits_lt}
use Rattle.numbers.proofs.Widened.{shortened_bits, shortened_real}
use Rattle.numbers.proofs.shortened.Goals as goal

held : (x : Float) → fits binary64 x ≡ true → T (fits binary64 x)
held x e = subst T (sym e) tt

-- the pattern of a magnitude between the two tests
moderate : (x : Float) → fits binary64 x ≡ true → to_bits binary64 x % 2 ^ 63 < 0x47e0_0000_0000_0000
    → closest (to_bits binary64 x) (2 ^ 29) ≤ 7 * 2 ^ 32
moderate x e h =
    let below : to_bits binary64 x ≤ 7 * 2 ^ 61 = omega (arith, bits_lt x (held x e)) in
    closest_mono (to_bits binary64 x) (2 ^ 29) (7 * 2 ^ 61) (2 ^ 29) (pow_pos 29) (pow_pos 29) (omega (arith, below))

real : (x : Float) → fits binary64 x ≡ true → 0x3810_0000_0000_0000 ≤ to_bits binary64 x % 2 ^ 63
    → to_bits binary64 x % 2 ^ 63 < 0x47e0_0000_0000_0000
    → (r : ℕ) → r ≡ closest (to_bits binary64 x) (2 ^ 29) → T (not (nan_bits binary64 (r * 2 ^ 29)))
real x e from to r h = real_pattern binary64 _ (rw h (shortened_real x (held x e) from to))

value : (x : Float) → fits binary64 x ≡ true → 0x3810_0000_0000_0000 ≤ to_bits binary64 x % 2 ^ 63
    → to_bits binary64 x % 2 ^ 63 < 0x47e0_0000_0000_0000
    → (r : ℕ) → r ≡ closest (to_bits binary64 x) (2 ^ 29) → of_bits binary64 (r * 2 ^ 29) ≡ narrowed x
value x e from to r h =
    ap (λ (n : ℕ). of_bits binary64 (n * 2 ^ 29)) h ∙ shortened_bits x (held x e) from to

pub returns-then-x : goal.returns-then-x
unfolding div of_bits narrowed
returns-then-x c = sym (ap narrowed (differs_from_itself c.args.x (subst T (sym c.if-x.true) tt)))

pub float_to_bits-bits : goal.float_to_bits-bits
float_to_bits-bits c = real_of c.args.x c.if-x.false

pub rounded-requires : goal.rounded-requires
rounded-requires c = (omega (arith, bits_lt c.args.x (held c.args.x c.well_formed.0.1)), omega arith, omega arith)

pub overflow_mul-result : goal.overflow_mul-result
overflow_mul-result c =
    omega (arith, moderate c.args.x c.well_formed.0.1 c.if-size-lt-HALF_LARGEST.true, c.rounded.ensures)

pub float_from_bits-result : goal.float_from_bits-result
float_from_bits-result c =
    real c.args.x c.well_formed.0.1 c.if-size-ge-NORMAL.true c.if-size-lt-HALF_LARGEST.true _ c.rounded.ensures

pub returns-then-size-lt-HALF_LARGEST : goal.returns-then-size-lt-HALF_LARGEST
returns-then-size-lt-HALF_LARGEST c =
    value c.args.x c.well_formed.0.1 c.if-size-ge-NORMAL.true c.if-size-lt-HALF_LARGEST.true _ c.rounded.ensures

pub returns : goal.returns
returns c = c.f32_to_f64_with_nan.ensures ∙ c.by_parts.ensures

-- `numbers::by_parts` meets its contract. Off a NaN the pattern is taken apart into its sign and its magnitude, and
-- `narrow_magnitude` has the rest. Assumes nothing.
use Rattle.std.specs.Prelude.{◌≡◌}
use Rattle.rules.proofs.Common.{true, sym, ap, subst, T, Float, binary32, binary64}
use Rattle.std.proofs.Common.{arith}
use lib.Ieee.{fits, div, of_bits}
use lib.Ieee.Compare.{differs_from_itself}
use Rattle.numbers.specs.Narrowed.{narrowed}
use Rattle.numbers.proofs.NoNan.{real_of, magnitude_le, real_pattern}
use Rattle.numbers.proofs.Conversion.{bits_lt, narrowed_bits}
use Rattle.numbers.proofs.by_parts.Goals as goal

-- what owning an `f64` tells: the format holds it
held : (x : Float) → fits binary64 x ≡ true → T (fits binary64 x)
held x e = subst T (sym e) tt

pub returns-then-x : goal.returns-then-x
unfolding div of_bits narrowed
returns-then-x c = sym (ap narrowed (differs_from_itself c.args.x (subst T (sym c.if-x.true) tt)))

pub float_to_bits-bits : goal.float_to_bits-bits
float_to_bits-bits c = real_of c.args.x c.if-x.false

pub overflow_mul-result : goal.overflow_mul-result
overflow_mul-result c = omega (arith, bits_lt c.args.x (held c.args.x c.well_formed.0.1))

pub narrow_magnitude-requires : goal.narrow_magnitude-requires
narrow_magnitude-requires c = magnitude_le binary64 c.args.x (held c.args.x c.well_formed.0.1)
    (real_of c.args.x c.if-x.false)

pub overflow_add-result : goal.overflow_add-result
overflow_add-result c = omega (
  arith,
  bits_lt c.args.x (held c.args.x c.well_formed.0.1),
  c.narrow_magnitude.ensures.small,
)

pub overflow_cast-result : goal.overflow_cast-result
overflow_cast-result c = omega (
  arith,
  bits_lt c.args.x (held c.args.x c.well_formed.0.1),
  c.narrow_magnitude.ensures.small,
)

pub float_from_bits-result : goal.float_from_bits-result
float_from_bits-result c = real_pattern binary32 _ (omega (arith, c.narrow_magnitude.ensures.small))

pub returns : goal.returns
returns c = narrowed_bits c.args.x (held c.args.x c.well_formed.0.1) c.narrow_magnitude.result
    c.narrow_magnitude.ensures

-- `numbers::sqrt` meets its contract. Above zero the bits go by `proofs/Extraction.antt`, and the rest by
-- `proofs/Special.antt`. Assumes nothing.
use Rattle.std.specs.Prelude.{◌+◌, ◌-◌, ◌*◌, ◌/◌, ◌^◌, ◌≤◌, ◌≡◌}
use Rattle.std.proofs.Common.{lt_of_lt_of_le, arith, lit≤, rules}
use Rattle.rules.proofs.Common.{ℕ, true, not, sym, ap, subst, ◌∙◌, T, binary32}
use Rattle.rules.proofs.Common.{binary64}
use Rattle.rules.proofs.Common.{Float, lt, is_nan}
use lib.Ieee.{fits, div, of_bits, to_bits}
use lib.Ieee.Fits.{and_i, fits_widens}
use lib.Ieee.Positive.{above}
use Rattle.numbers.proofs.NoNan.{real_pattern}
use Rattle.numbers.proofs.Special.{above_zero, zero_tested, below_tested, root_of_zero, no_root, above_real}
use Rattle.numbers.proofs.Extraction.{Extracts, extracted, infinite, scaled_lt, kept, kept_le}
use Rattle.numbers.proofs.sqrt.Goals as goal

-- what owning an `f32` tells: the format holds it
held : (x : Float) → fits binary32 x ≡ true → T (fits binary32 x)
held x e = subst T (sym e) tt

positive : (x : Float) → lt (of_bits binary32 0) x ≡ true → T (above x)
unfolding of_bits
positive x h = above_zero x h

found : (x : Float) → fits binary32 x ≡ true → lt (of_bits binary32 0) x ≡ true
    → (to_bits binary64 x / 2 ^ 52 ≡ 2047 → ⊥) → Extracts x (to_bits binary64 x)
found x e h finite = extracted x (held x e) (positive x h) finite

-- the pattern is at most the infinity's
small : (x : Float) (r : ℕ) → Extracts x (to_bits binary64 x) → r ≡ kept (to_bits binary64 x)
    → (to_bits binary64 x / 2 ^ 52 - 771) / 2 * 2 ^ 23 + r ≤ 255 * 2 ^ 23
small x r f e = omega (arith, f.field_le, e, kept_le (to_bits binary64 x))

pub float_to_float-bits : goal.float_to_float-bits
float_to_float-bits c =
    let x = c.args.x in
    and_i (fits binary64 x) (not (is_nan x)) (fits_widens x (held c.args.x c.well_formed.0.1))
    (above_real x (positive c.args.x c.if-x.true))

pub float_to_bits-bits : goal.float_to_bits-bits
float_to_bits-bits c = above_real c.args.x (positive c.args.x c.if-x.true)

pub returns-then-field-eq2047 : goal.returns-then-field-eq2047
returns-then-field-eq2047 c =
    infinite c.args.x (held c.args.x c.well_formed.0.1) (positive c.args.x c.if-x.true)
    c.if-field-eq2047.true

pub overflow_add-digits : goal.overflow_add-digits
overflow_add-digits c = search rules

pub overflow_sub-field : goal.overflow_sub-field
overflow_sub-field c = search rules

pub overflow_mul-digits : goal.overflow_mul-digits
overflow_mul-digits c = record { fits = lt_of_lt_of_le (scaled_lt (to_bits binary64 c.args.x)) (lit≤ tt) }

pub root_digits-root-requires : goal.root_digits-root-requires
root_digits-root-requires c = scaled_lt (to_bits binary64 c.args.x)

pub overflow_sub-result : goal.overflow_sub-result
overflow_sub-result c = omega (arith, (found c.args.x c.well_formed.0.1 c.if-x.true c.if-field-eq2047.false).field_ge)

pub overflow_mul-result : goal.overflow_mul-result
overflow_mul-result c = omega (arith, (found c.args.x c.well_formed.0.1 c.if-x.true c.if-field-eq2047.false).field_le)

pub overflow_add-result : goal.overflow_add-result
overflow_add-result c = omega (
  arith,
  small c.args.x _ (found c.args.x c.well_formed.0.1 c.if-x.true
      c.if-field-eq2047.false) c.root_digits-root.ensures,
)

pub overflow_cast-result : goal.overflow_cast-result
overflow_cast-result c = omega (
  arith,
  small c.args.x _ (found c.args.x c.well_formed.0.1 c.if-x.true
      c.if-field-eq2047.false) c.root_digits-root.ensures,
)

pub float_from_bits-result : goal.float_from_bits-result
float_from_bits-result c = real_pattern binary32 _ (omega (
  arith,
  small c.args.x _ (found c.args.x c.well_formed.0.1 c.if-x.true c.if-field-eq2047.false)
      c.root_digits-root.ensures,
))

pub returns-then-x : goal.returns-then-x
returns-then-x c =
    let b = to_bits binary64 c.args.x in
    ap (λ (y : ℕ). of_bits binary32 ((b / 2 ^ 52 - 771) / 2 * 2 ^ 23 + y)) c.root_digits-root.ensures
    ∙ (found c.args.x c.well_formed.0.1 c.if-x.true c.if-field-eq2047.false).value

pub returns-then-x-2 : goal.returns-then-x-2
unfolding of_bits
returns-then-x-2 c = let x = c.args.x in root_of_zero binary32 x (zero_tested x c.if-x-2.true)

pub returns-else-x-2 : goal.returns-else-x-2
unfolding of_bits div
returns-else-x-2 c =
    let x = c.args.x in
    no_root binary32 x (below_tested x c.if-x.false c.if-x-2.false)

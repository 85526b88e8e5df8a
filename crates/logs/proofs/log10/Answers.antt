-- `logs::log10` meets its contract: each way through it is a case of proofs/Special. Assumes nothing.
use Rattle.std.specs.Prelude.{◌≡◌}
use Rattle.rules.proofs.Common.{true, not, sym, ap, subst, ◌∙◌, T, binary32, binary64, is_nan, Float, lt}
use lib.Ieee.{fits, div, neg, of_bits}
use lib.Ieee.Fits.{and_i, fits_widens}
use lib.Ieee.Positive.{above}
use Rattle.numbers.proofs.Special.{above_zero, zero_tested, below_tested, above_real}
use Rattle.numbers.specs.Narrowed.{narrowed}
use Rattle.logs.proofs.Special.{log_of_zero, no_log, log_of_infinity, log_above}
use Rattle.logs.proofs.log10.Goals as goal

-- what owning an `f32` tells: the format holds it
held : (x : Float) → fits binary32 x ≡ true → T (fits binary32 x)
held x e = subst T (sym e) tt

positive : (x : Float) → lt (of_bits binary32 0) x ≡ true → T (above x)
unfolding of_bits
positive x h = above_zero x h

pub returns-then-x-2 : goal.returns-then-x-2
unfolding of_bits div
returns-then-x-2 c = log_of_infinity c.args.x c.if-x-2.true

pub float_to_float-x : goal.float_to_float-x
float_to_float-x c =
    let x = c.args.x in
    and_i (fits binary64 x) (not (is_nan x)) (fits_widens x (held x c.well_formed.0.1))
    (above_real x (positive c.args.x c.if-x.true))

pub float_to_bits-x : goal.float_to_bits-x
float_to_bits-x c = above_real c.args.x (positive c.args.x c.if-x.true)

pub returns-then-x : goal.returns-then-x
unfolding of_bits div
returns-then-x c =
    c.narrow.ensures ∙ ap narrowed c.log_of_bits.ensures
    ∙ log_above c.args.x (positive c.args.x c.if-x.true) c.if-x-2.false

pub returns-then-x-3 : goal.returns-then-x-3
unfolding of_bits div neg
returns-then-x-3 c = let x = c.args.x in log_of_zero x (zero_tested x c.if-x-3.true)

pub returns-else-x-3 : goal.returns-else-x-3
unfolding of_bits div
returns-else-x-3 c = let x = c.args.x in no_log x (below_tested x c.if-x.false c.if-x-3.false)

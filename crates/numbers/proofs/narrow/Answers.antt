-- `numbers::narrow` meets its contract: what is rounded is an `f32`, and no NaN. Assumes nothing.
use Rattle.std.specs.Prelude.{◌&&◌}
use Rattle.rules.proofs.Common.{not, sym, ap, subst, T, Float, binary32}
use lib.Ieee.{fits, div, is_nan, of_bits}
use lib.Ieee.Fits.{and_i}
use lib.Ieee.Compare.{differs_from_itself}
use Rattle.numbers.specs.Narrowed.{narrowed}
use Rattle.numbers.proofs.NoNan.{real_of}
use Rattle.numbers.proofs.Widened.{narrowed_fits, narrowed_real}
use Rattle.numbers.proofs.narrow.Goals as goal

pub returns-then-x : goal.returns-then-x
unfolding div of_bits narrowed
returns-then-x c = sym (ap narrowed (differs_from_itself c.args.x (subst T (sym c.if-x.true) tt)))

pub float_to_float-result : goal.float_to_float-result
float_to_float-result c =
    let x = c.args.x in
    subst (λ (y : Float). T (fits binary32 y && not (is_nan y))) (sym c.shortened.ensures)
    (and_i (fits binary32 (narrowed x)) (not (is_nan (narrowed x))) (narrowed_fits x)
    (narrowed_real x (real_of x c.if-x.false)))

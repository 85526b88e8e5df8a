-- `bands::dct_scaled` meets its contract: the scale is the one computed, and a NaN stays one. Assumes nothing.
use Rattle.rules.proofs.Common.{sym, subst, T}
use lib.Ieee.{div, mul, of_bits}
use lib.Ieee.Compare.{differs_from_itself}
use borrow.Author.Rules.{rules}
use Rattle.numbers.specs.Narrowed.{narrowed}
use Rattle.numbers.proofs.NoNan.{real_of}
use Rattle.bands.specs.Dct.{dct_scaled}
use Rattle.bands.proofs.Scale.{scale_is}
use Rattle.bands.proofs.dct_scaled.Goals as goal

pub returns-then-sum : goal.returns-then-sum
unfolding dct_scaled div mul of_bits narrowed
returns-then-sum c = rw (differs_from_itself c.args.sum (subst T (sym c.if-sum.true) tt))

pub float_to_float-sum : goal.float_to_float-sum
float_to_float-sum c = search (rules, real_of c.args.sum c.if-sum.false)

pub returns : goal.returns
unfolding dct_scaled
returns c = rw scale_is c.narrow.ensures

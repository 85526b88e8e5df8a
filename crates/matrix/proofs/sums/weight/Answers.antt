-- `matrix::sums::weight` meets its contract. Assumes nothing.
use Rattle.rules.proofs.Common.{ap, binary32, of_int}
use native.Mathlib.Omega.{arith}
use borrow.Author.Rules.{sfits_of}
use Rattle.matrix.proofs.Bytes.{moved_fits, moved_signed}
use Rattle.matrix.proofs.sums.weight.Goals as goal

pub overflow_sub-result : goal.overflow_sub-result
overflow_sub-result c = sfits_of (moved_fits c.args.b (omega arith))

pub returns : goal.returns
returns c = ap (of_int binary32) (moved_signed c.args.b (omega arith))

-- `numbers::rounded` meets its contract. The half is at most 2 ^ 61, so no sum wraps. Assumes nothing.
use Rattle.std.proofs.Common.{arith, rules}
use Rattle.numbers.proofs.Closest.{half_pos, half_le, shift_rounds}
use Rattle.numbers.proofs.rounded.Goals as goal

pub overflow_sub-half : goal.overflow_sub-half
overflow_sub-half c = search rules

pub overflow_shl-half : goal.overflow_shl-half
overflow_shl-half c = search rules

pub overflow_sub-result : goal.overflow_sub-result
overflow_sub-result c = half_pos c.args.k c.requires.1 c.requires.2

pub overflow_add-result : goal.overflow_add-result
overflow_add-result c = omega (arith, half_le c.args.k c.requires.1 c.requires.2)

pub overflow_shr-result : goal.overflow_shr-result
overflow_shr-result c = search rules

pub overflow_add-result-2 : goal.overflow_add-result-2
overflow_add-result-2 c = omega (arith, half_le c.args.k c.requires.1 c.requires.2)

pub overflow_shr-result-2 : goal.overflow_shr-result-2
overflow_shr-result-2 c = search rules

pub returns : goal.returns
returns c = shift_rounds c.args.k c.requires.1 c.requires.2 c.args.v

-- `numbers::guessed_digits` meets its contract. Assumes nothing.
use Rattle.std.proofs.Common.{arith}
use lib.Ieee.{binary64}
use Rattle.numbers.proofs.NoNan.{real_of, real_pattern}
use Rattle.numbers.proofs.guessed_digits.Goals as goal

pub float_from_bits-x : goal.float_from_bits-x
float_from_bits-x c = real_pattern binary64 _ (omega arith)

pub float_to_bits-result : goal.float_to_bits-result
float_to_bits-result c = real_of _ c.if-root.false

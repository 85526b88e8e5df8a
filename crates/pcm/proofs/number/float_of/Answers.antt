-- `pcm::number::float_of` meets its contract. Assumes nothing.
use Rattle.std.proofs.Common.{sym, arith}
use lib.Ieee.{binary32, of_bits, div}
use Rattle.numbers.proofs.NoNan.{real_pattern}
use Rattle.pcm.proofs.Patterns.{a_nan}
use Rattle.pcm.proofs.number.float_of.Goals as goal

pub returns-then-bits-gt2139095040 : goal.returns-then-bits-gt2139095040
unfolding div of_bits
returns-then-bits-gt2139095040 c = sym (a_nan c.args.bits c.if-bits-gt2139095040.true)

pub float_from_bits-result : goal.float_from_bits-result
float_from_bits-result c = real_pattern binary32 _ (omega arith)

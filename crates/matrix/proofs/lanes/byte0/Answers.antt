-- `matrix::lanes::byte0` meets its contract. Assumes nothing.
use Prim.Native.Nat.{◌%◌}
use native.Mathlib.Omega.{arith}
use Rattle.matrix.proofs.Flipped.{low_real, low_signed}
use Rattle.matrix.proofs.lanes.byte0.Goals as goal

pub float_from_bits-result : goal.float_from_bits-result
float_from_bits-result c = low_real (c.args.v % 256) (omega arith)

pub returns : goal.returns
returns c = low_signed (c.args.v % 256) (omega arith)

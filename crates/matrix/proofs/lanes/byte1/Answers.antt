-- `matrix::lanes::byte1` meets its contract. Assumes nothing.
use Prim.Native.Nat.{◌/◌, ◌%◌}
use native.Mathlib.Omega.{arith}
use Rattle.matrix.proofs.Flipped.{high_real, high_signed}
use Rattle.matrix.proofs.lanes.byte1.Goals as goal

pub float_from_bits-result : goal.float_from_bits-result
float_from_bits-result c = high_real (c.args.v / 256 % 256) (omega arith)

pub returns : goal.returns
returns c = high_signed (c.args.v / 256 % 256) (omega arith)

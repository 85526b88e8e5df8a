-- `fft::stages::lane4` meets its contract. Assumes nothing.
use native.Mathlib.Omega.{arith}
use Rattle.fft.proofs.Joined.{row4_of}
use Rattle.fft.proofs.stages.lane4.Goals as goal

pub returns : goal.returns
returns c =
    row4_of c.args.c.now c.args.z.now 8 c.args.i (omega arith) (omega arith)
    c.join4.ensures

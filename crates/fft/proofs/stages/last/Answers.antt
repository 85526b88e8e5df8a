-- `fft::stages::last` meets its contract. Assumes nothing.
use native.Mathlib.Omega.{arith}
use Rattle.fft.proofs.Joined.{row4_of}
use Rattle.fft.proofs.stages.last.Goals as goal

pub returns : goal.returns
returns c =
    row4_of c.args.c.now c.args.z.now 1 c.args.i (omega arith) (omega arith)
    c.join4.ensures

-- `fft::stages::lane2` meets its contract. Assumes nothing.
use native.Mathlib.Omega.{arith}
use Rattle.fft.proofs.Joined.{two_of, row2_of}
use Rattle.fft.proofs.stages.lane2.Goals as goal

pub returns : goal.returns
returns c =
    row2_of c.args.c.now c.args.z.now 4
    c.args.i (omega arith) (omega arith)
    (two_of c.args.c.now c.two.ensures c.entry-a.ensures
    c.turned-b.ensures)

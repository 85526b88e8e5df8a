-- `fft::stages::lane3` meets its contract. Assumes nothing.
use native.Mathlib.Omega.{arith}
use Rattle.fft.proofs.Joined.{three_of, row3_of}
use Rattle.fft.proofs.stages.lane3.Goals as goal

pub returns : goal.returns
returns c =
    row3_of c.args.c.now c.args.z.now 32
    c.args.i (omega arith) (omega arith)
    (three_of c.args.c.now c.three.ensures
    c.entry-a.ensures c.turned-b.ensures c.turned-d.ensures)

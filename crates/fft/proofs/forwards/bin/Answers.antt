-- `fft::forwards::bin` meets its contract. Assumes nothing.
use native.Mathlib.Omega.{arith}
use Prim.Native.Nat.{◌-◌}
use Rattle.fft.proofs.Ends.{bin_of_lem}
use Rattle.fft.proofs.forwards.bin.Goals as goal

pub returns : goal.returns
returns c =
    bin_of_lem c.args.c.now c.args.z.now
    c.args.k c.args.k (480 - c.args.k)
    c.split.ensures c.entry-a.ensures c.entry-b.ensures (omega arith)
    (omega arith)

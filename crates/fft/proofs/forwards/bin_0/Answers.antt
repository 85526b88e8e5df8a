-- `fft::forwards::bin_0` meets its contract. Assumes nothing.
use Rattle.fft.proofs.Ends.{bin_0_filled}
use Rattle.fft.proofs.forwards.bin_0.Goals as goal

pub returns : goal.returns
returns c =
    bin_0_filled c.args.c.now c.args.z.now
    c.args.out.now c.told-out

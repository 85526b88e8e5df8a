-- `fft::forwards::bin_480` meets its contract. Assumes nothing.
use Rattle.rules.proofs.Common.{refl}
use Rattle.fft.proofs.Ends.{bin_of_lem}
use Rattle.fft.proofs.forwards.bin_480.Goals as goal

pub returns : goal.returns
returns c = bin_of_lem c.args.c.now c.args.z.now 480 0 0 c.split.ensures c.entry-a.ensures c.entry-a.ensures refl refl

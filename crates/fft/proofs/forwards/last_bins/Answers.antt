-- `fft::forwards::last_bins` meets its contract. Assumes nothing.
use native.Mathlib.Omega.{arith}
use Rattle.fft.proofs.Ends.{bins_filled}
use Rattle.fft.proofs.forwards.last_bins.Goals as goal

pub returns : goal.returns
returns c =
    bins_filled
    c.args.c.now
    c.args.z.now 477 (omega arith) (omega arith)
    c.requires
    c.bin-w.ensures
    c.bin-x.ensures
    c.bin-y.ensures
    c.bin_480-v.ensures
    c.put_four.ensures
    c.put_four-2.ensures

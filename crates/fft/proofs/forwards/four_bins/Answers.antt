-- `fft::forwards::four_bins` meets its contract. Assumes nothing.
use native.Mathlib.Omega.{arith}
use Rattle.fft.proofs.Ends.{bins_filled}
use Rattle.fft.proofs.forwards.four_bins.Goals as goal

pub returns : goal.returns
returns c =
    bins_filled
    c.args.c.now
    c.args.z.now
    c.args.k
    (omega (
      arith,
      c.requires.k_range,
    ))
    (omega (
      arith,
      c.requires.k_range,
    ))
    c.requires.filled
    c.bin-w.ensures
    c.bin-x.ensures
    c.bin-y.ensures
    c.bin-v.ensures
    c.put_four.ensures
    c.put_four-2.ensures

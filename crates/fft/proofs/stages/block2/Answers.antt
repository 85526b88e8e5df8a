-- `fft::stages::block2` meets its contract. Assumes nothing.
use mathlib.Core.Path.{refl}
use native.Mathlib.Omega.{arith}
use Rattle.fft.proofs.Laying.{laid_bins}
use Rattle.fft.proofs.stages.block2.Goals as goal

pub returns : goal.returns
returns c =
    laid_bins 2 240 refl _ c.args.i
    (omega (arith, c.requires.i_bound))
    c.requires.laid
    c.lane2-w.ensures
    c.lane2-x.ensures
    c.lane2-y.ensures c.lane2-v.ensures
    c.put_bins.ensures

-- `fft::stages::block3` meets its contract. Assumes nothing.
use mathlib.Core.Path.{refl}
use native.Mathlib.Omega.{arith}
use Rattle.fft.proofs.Laying.{laid_bins}
use Rattle.fft.proofs.stages.block3.Goals as goal

pub returns : goal.returns
returns c =
    laid_bins 3 160 refl _ c.args.i
    (omega (arith, c.requires.i_bound))
    c.requires.laid
    c.lane3-w.ensures
    c.lane3-x.ensures
    c.lane3-y.ensures c.lane3-v.ensures
    c.put_bins.ensures

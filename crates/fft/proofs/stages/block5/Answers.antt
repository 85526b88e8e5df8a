-- `fft::stages::block5` meets its contract. Assumes nothing.
use mathlib.Core.Path.{refl}
use native.Mathlib.Omega.{arith}
use Rattle.fft.proofs.Laying.{laid_bins}
use Rattle.fft.proofs.stages.block5.Goals as goal

pub returns : goal.returns
returns c =
    laid_bins 5 96 refl _ c.args.i
    (omega (arith, c.requires.i_bound))
    c.requires.laid
    c.lane5-w.ensures
    c.lane5-x.ensures
    c.lane5-y.ensures c.lane5-v.ensures
    c.put_bins.ensures

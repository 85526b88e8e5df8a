-- `fft::stages::block4` meets its contract. Assumes nothing.
use mathlib.Core.Path.{refl}
use native.Mathlib.Omega.{arith}
use Rattle.fft.proofs.Laying.{laid_bins}
use Rattle.fft.proofs.stages.block4.Goals as goal

pub returns : goal.returns
returns c =
    laid_bins 4 120 refl _ c.args.i
    (omega (arith, c.requires.i_bound))
    c.requires.laid
    c.lane4-w.ensures
    c.lane4-x.ensures
    c.lane4-y.ensures c.lane4-v.ensures
    c.put_bins.ensures

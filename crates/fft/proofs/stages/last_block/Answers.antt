-- `fft::stages::last_block` meets its contract. Assumes nothing.
use mathlib.Core.Path.{refl}
use native.Mathlib.Omega.{arith}
use Rattle.fft.proofs.Laying.{laid_bins}
use Rattle.fft.proofs.stages.last_block.Goals as goal

pub returns : goal.returns
returns c =
    laid_bins 4 120 refl _ c.args.i
    (omega (arith, c.requires.i_bound))
    c.requires.laid
    c.last-w.ensures
    c.last-x.ensures
    c.last-y.ensures c.last-v.ensures
    c.put_bins.ensures

-- `fft::inverses::first_block` meets its contract. Assumes nothing.
use native.Mathlib.Omega.{arith}
use mathlib.Core.Path.{refl}
use Rattle.fft.specs.Fast.{merged_at}
use Rattle.fft.specs.Single.{single, of}
use Rattle.fft.proofs.Laying.{begun, laid_ones}
use Rattle.fft.proofs.inverses.first_block.Goals as goal

pub returns : goal.returns
returns c =
    laid_ones (merged_at single
    (of c.args.c.now)
    c.args.x.now) 0 (omega arith)
    (begun 1 480 _ refl _ c.told-out)
    c.merged_0-w.ensures
    c.merged-y.ensures
    c.merged-u.ensures
    c.merged-v.ensures c.put.ensures

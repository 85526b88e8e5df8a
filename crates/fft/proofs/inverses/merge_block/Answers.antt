-- `fft::inverses::merge_block` meets its contract. Assumes nothing.
use native.Mathlib.Omega.{arith}
use Rattle.fft.proofs.Laying.{laid_ones}
use Rattle.fft.proofs.inverses.merge_block.Goals as goal

pub returns : goal.returns
returns c =
    laid_ones _ c.args.i
    (omega (arith, c.requires.room))
    c.requires.laid
    c.merged-w.ensures
    c.merged-y.ensures
    c.merged-u.ensures c.merged-v.ensures
    c.put.ensures

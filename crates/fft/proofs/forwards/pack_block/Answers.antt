-- `fft::forwards::pack_block` meets its contract. Assumes nothing.
use native.Mathlib.Omega.{arith}
use Rattle.fft.proofs.Laying.{laid_ones}
use Rattle.fft.proofs.forwards.pack_block.Goals as goal

pub returns : goal.returns
returns c =
    laid_ones _ c.args.i
    (omega (arith, c.requires.room))
    c.requires.laid
    c.pair-w.ensures
    c.pair-y.ensures
    c.pair-u.ensures c.pair-v.ensures
    c.put.ensures

-- `fft::inverses::other_blocks` meets its contract. Assumes nothing.
use Rattle.std.specs.Prelude.{◌+◌, ◌*◌, ◌≡◌}
use native.Mathlib.Omega.{arith}
use Rattle.fft.specs.Single.{single, of}
use Rattle.fft.specs.Fast.{merged_at, merged_of}
use Rattle.fft.proofs.Laying.{laid_single}
use Rattle.fft.proofs.inverses.other_blocks.Goals as goal

pub loop-b-init : goal.loop-b-init
loop-b-init c = (omega arith, c.requires)

pub merge_block-requires : goal.merge_block-requires
merge_block-requires c =
    record { laid = c.loop-b.invariant.1; room = (omega arith, omega arith) }

pub loop-b-preserved : goal.loop-b-preserved
loop-b-preserved c =
    let l = c.loop-b in
    let e : 4 * (l.b + 1) + 4 ≡ 4 * l.b + 4 + 4 = omega arith in
    (omega arith, rw e c.merge_block.ensures)

pub returns : goal.returns
unfolding merged_of
returns c =
    let l = c.loop-b in
    laid_single (merged_at single (of c.args.c.now)
    c.args.x.now) (4 * l.b + 4) (omega arith) (omega arith) l.invariant.1

-- `fft::forwards::pack` meets its contract. Assumes nothing.
use Rattle.std.specs.Prelude.{◌+◌, ◌*◌, ◌≡◌}
use native.Mathlib.Omega.{arith}
use Rattle.rules.proofs.Common.{refl}
use Rattle.fft.specs.Single.{single}
use Rattle.fft.specs.Fast.{pair, as_complex}
use Rattle.fft.proofs.Laying.{begun, laid_single}
use Rattle.fft.proofs.forwards.pack.Goals as goal

pub loop-b-init : goal.loop-b-init
loop-b-init c = (omega arith, begun 1 480 _ refl _ c.told-out)

pub pack_block-requires : goal.pack_block-requires
pack_block-requires c =
    record { laid = c.loop-b.invariant.1; room = omega arith }

pub loop-b-preserved : goal.loop-b-preserved
loop-b-preserved c =
    let l = c.loop-b in
    let e : 4 * (l.b + 1) ≡ 4 * l.b + 4 = omega arith in
    (omega arith, rw e c.pack_block.ensures)

pub returns : goal.returns
unfolding as_complex
returns c =
    let l = c.loop-b in
    laid_single (pair single c.args.x.now) (4 * l.b) (omega arith) (omega arith)
    l.invariant.1

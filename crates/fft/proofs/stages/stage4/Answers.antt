-- `fft::stages::stage4` meets its contract. Assumes nothing.
use Rattle.std.specs.Prelude.{◌+◌, ◌*◌, ◌≡◌}
use Rattle.rules.proofs.Common.{refl}
use native.Mathlib.Omega.{arith}
use Rattle.fft.proofs.Laying.{begun, laid_all}
use Rattle.fft.proofs.stages.stage4.Goals as goal

pub loop-b-init : goal.loop-b-init
loop-b-init c = (omega arith, begun 4 120 _ refl _ c.told-out)

pub block4-requires : goal.block4-requires
block4-requires c = record { laid = c.loop-b.invariant.1; i_bound = omega arith }

pub loop-b-preserved : goal.loop-b-preserved
loop-b-preserved c =
    let l = c.loop-b in
    let e : 4 * (l.b + 1) ≡ 4 * l.b + 4 = omega arith in
    (omega arith, rw e c.block4.ensures)

pub returns : goal.returns
returns c =
    let l = c.loop-b in
    laid_all 4 120 _ refl (omega arith) (4 * l.b) (omega arith) (omega arith) l.invariant.1

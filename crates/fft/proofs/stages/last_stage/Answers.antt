-- `fft::stages::last_stage` meets its contract. Assumes nothing.
use Rattle.std.specs.Prelude.{◌+◌, ◌*◌, ◌≡◌}
use Rattle.rules.proofs.Common.{refl}
use native.Mathlib.Omega.{arith}
use Rattle.fft.proofs.Laying.{begun, laid_all}
use Rattle.fft.proofs.stages.last_stage.Goals as goal

pub loop-b-init : goal.loop-b-init
loop-b-init c = (omega arith, begun 4 120 _ refl _ c.told-out)

pub last_block-requires : goal.last_block-requires
last_block-requires c = record { laid = c.loop-b.invariant.1; i_bound = omega arith }

pub last_block-requires-in-loop-b : goal.last_block-requires-in-loop-b
last_block-requires-in-loop-b c = record { laid = c.last_block.ensures; i_bound = omega arith }

pub loop-b-preserved : goal.loop-b-preserved
loop-b-preserved c =
    let l = c.loop-b in
    let e : 8 * (l.b + 1) ≡ 8 * l.b + 4 + 4 = omega arith in
    (omega arith, rw e c.last_block-in-loop-b.ensures)

pub returns : goal.returns
returns c =
    let l = c.loop-b in
    laid_all 4 120 _ refl (omega arith) (8 * l.b) (omega arith) (omega arith) l.invariant.1

-- `fft::stages::stage2` meets its contract. Assumes nothing.
use Rattle.std.specs.Prelude.{◌+◌, ◌*◌, ◌≡◌}
use Rattle.rules.proofs.Common.{refl}
use native.Mathlib.Omega.{arith}
use Rattle.fft.proofs.Laying.{begun, laid_all}
use Rattle.fft.proofs.stages.stage2.Goals as goal

pub loop-b-init : goal.loop-b-init
loop-b-init c = (omega arith, begun 2 240 _ refl _ c.told-out)

pub block2-requires : goal.block2-requires
block2-requires c = record { laid = c.loop-b.invariant.1; i_bound = omega arith }

pub block2-requires-in-loop-b : goal.block2-requires-in-loop-b
block2-requires-in-loop-b c = record { laid = c.block2.ensures; i_bound = omega arith }

pub block2-requires-in-loop-b-2 : goal.block2-requires-in-loop-b-2
block2-requires-in-loop-b-2 c = record { laid = c.block2-in-loop-b.ensures; i_bound = omega arith }

pub block2-requires-in-loop-b-3 : goal.block2-requires-in-loop-b-3
block2-requires-in-loop-b-3 c = record { laid = c.block2-in-loop-b-2.ensures; i_bound = omega arith }

pub loop-b-preserved : goal.loop-b-preserved
loop-b-preserved c =
    let l =
    c.loop-b in
    let e : 16 * (l.b + 1) ≡ 16 * l.b + 4 + 4 + 4 + 4 = omega arith in
    (omega arith, rw e c.block2-in-loop-b-3.ensures)

pub returns : goal.returns
returns c =
    let l = c.loop-b in
    laid_all 2 240 _ refl (omega arith) (16 * l.b) (omega arith) (omega arith) l.invariant.1

-- `pitch_search::inner_prod_core` meets its contract. Assumes nothing.
use Rattle.std.specs.Prelude.{◌/◌}
use native.Mathlib.Omega.{arith}
use Rattle.rules.proofs.Loops.{turns, ended, range_ended}
use Rattle.pitch_search.proofs.inner_prod_core.Goals as goal

pub loop-k-init : goal.loop-k-init
loop-k-init c = search turns

pub loop-k-preserved : goal.loop-k-preserved
loop-k-preserved c = search turns

pub loop-j-init : goal.loop-j-init
loop-j-init c = search turns

pub loop-j-preserved : goal.loop-j-preserved
loop-j-preserved c = search turns

pub returns : goal.returns
returns c =
    rw (← ended _ _ _ (c.args.n / 4) (omega arith) (omega arith)
    c.loop-k.invariant.2)
    (range_ended _ _ _ _ _ (omega arith) (omega arith) c.loop-j.invariant.2)

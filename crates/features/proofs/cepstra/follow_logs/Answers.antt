-- `features::cepstra::follow_logs` meets its contract. Assumes nothing.
use native.Mathlib.Omega.{arith}
use Rattle.rules.proofs.Loops.{begin, more}
use Rattle.rules.proofs.Lists.{filling_begin, filling_more, filling_ended}
use Rattle.features.specs.Cepstra.{floor_step, follow_logs}
use Rattle.features.proofs.cepstra.follow_logs.Goals as goal

pub loop-i-init : goal.loop-i-init
loop-i-init c = (begin _ _, filling_begin _ _)

pub loop-i-preserved : goal.loop-i-preserved
unfolding floor_step
loop-i-preserved c =
    let l = c.loop-i in
    (more _ _ _ l.invariant.0 (cc), filling_more _ _ _ l.invariant.1 (omega arith) (rw (← l.invariant.0) (cc)))

pub returns : goal.returns
unfolding follow_logs
returns c = filling_ended _ _ _ 22 (omega arith) (omega arith) (omega arith) c.loop-i.invariant.1

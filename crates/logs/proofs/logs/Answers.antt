-- `logs::logs` meets its contract: the first i places hold the logarithms of the first i sums. Assumes nothing.
use native.Mathlib.Omega.{arith}
use Rattle.rules.specs.Leaf.{done}
use Rattle.rules.proofs.Lists.{fills, filling_ended}
use Rattle.rules.proofs.Refusals.{leaves}
use Rattle.logs.specs.Log10.{logs_of}
use Rattle.logs.proofs.logs.Goals as goal

pub loop-i-init : goal.loop-i-init
loop-i-init c = search fills

pub loop-i-preserved : goal.loop-i-preserved
loop-i-preserved c = search (fills, c.log10.ensures)

pub returns : goal.returns
unfolding logs_of
returns c =
    let l = c.loop-i in
    done (record { into = c.if-out-ne22.false; from = c.if-sums-ne22.false })
    (leaves (filling_ended _ _ _ 22 (omega arith) (omega arith) c.if-out-ne22.false l.invariant))

-- `features::cepstra::delta_rows` meets its contract. Assumes nothing.
use native.Mathlib.Omega.{arith}
use Rattle.rules.proofs.Common.{◌∙◌}
use Rattle.rules.proofs.Lists.{filling_begin, filling_more, filling_ended}
use Rattle.features.specs.Cepstra.{deltas}
use Rattle.features.proofs.cepstra.delta_rows.Goals as goal

pub loop-i-init : goal.loop-i-init
loop-i-init c = filling_begin _ _

pub loop-i-preserved : goal.loop-i-preserved
loop-i-preserved c =
    let l = c.loop-i in
    filling_more _ _ l.i l.invariant (omega arith)
    (c.of.ensures ∙ rw (c.start-at0.ensures, c.start-at1.ensures, c.start-at2.ensures))

pub returns : goal.returns
unfolding deltas
returns c = filling_ended _ _ _ 6 (omega arith) (omega arith) (omega arith) c.loop-i.invariant

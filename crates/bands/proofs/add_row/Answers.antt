-- `bands::add_row` meets its contract. Assumes nothing.
use Rattle.rules.proofs.Common.{List, refl, ap, ◌∙◌, nan, Float}
use native.Mathlib.Omega.{arith}
use Rattle.rules.specs.F32.{at}
use Rattle.rules.proofs.Lists.{filling_begin, filling_more, filling_ended, filling_ahead}
use Rattle.bands.specs.Private.{sums_after}
use Rattle.bands.proofs.Sums.{sum_more}
use Rattle.bands.proofs.add_row.Goals as goal

pub loop-i-init : goal.loop-i-init
loop-i-init c = filling_begin _ _

pub loop-i-preserved : goal.loop-i-preserved
loop-i-preserved c =
    let l = c.loop-i in
    let still = filling_ahead _ _ l.i l.i nan l.invariant (omega arith)
    ∙ ap (λ (s : List Float). at s l.i) c.requires.1 in
    filling_more _ _ l.i l.invariant (omega arith) (sum_more _ _ _ l.i (omega arith) still refl)

pub returns : goal.returns
unfolding sums_after
returns c = filling_ended _ _ _ 22 (omega arith) (omega arith) (omega arith) c.loop-i.invariant

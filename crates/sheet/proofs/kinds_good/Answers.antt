use Rattle.rules.proofs.Common.{refl, sym, ap, ◌∙◌}
use native.Mathlib.Omega.{arith}
use lib.ListN.{drop_of_length-le}
use Rattle.sheet.specs.Written.{known_kinds}
use Rattle.sheet.proofs.Runs.{kinds_none, kinds_more, kinds_stop}
use Rattle.sheet.proofs.kinds_good.Goals as goal

pub loop-entry-init : goal.loop-entry-init
loop-entry-init c = (omega arith, refl, refl)

pub returns-then-entry-gt1 : goal.returns-then-entry-gt1
returns-then-entry-gt1 c =
    let l = c.loop-entry in
    sym (l.invariant.2 ∙ kinds_stop _ l.entry-index (omega arith) c.if-entry-gt1.true)

pub loop-entry-preserved : goal.loop-entry-preserved
loop-entry-preserved c =
    let l = c.loop-entry in
    (omega arith, l.invariant.1, l.invariant.2 ∙ kinds_more _ l.entry-index (omega arith) (omega arith))

pub returns : goal.returns
returns c =
    let l = c.loop-entry in
    sym (l.invariant.2 ∙ ap known_kinds (drop_of_length-le _ {i = l.entry-index} (omega arith)) ∙ kinds_none)

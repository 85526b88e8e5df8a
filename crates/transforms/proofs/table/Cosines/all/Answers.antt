-- `transforms::table::Cosines::all` meets its contract. Assumes nothing.
use mathlib.Core.Path.{refl, ap, ◌∙◌}
use native.Mathlib.Omega.{arith}
use Rattle.rules.proofs.Lists.{filling_begin, filling_more, filling_ended}
use Rattle.transforms.specs.Private.{extended}
use Rattle.transforms.proofs.table.Cosines.all.Goals as goal

pub loop-i-init : goal.loop-i-init
loop-i-init c = (refl, filling_begin _ _)

pub loop-i-preserved : goal.loop-i-preserved
loop-i-preserved c =
    let l = c.loop-i in
    (l.invariant.0, filling_more _ _ _ l.invariant.1 (omega arith) refl)

pub invariant_of-result : goal.invariant_of-result
invariant_of-result c =
    let l = c.loop-i in
    record {
      extended = filling_ended _ _ _ 1200 (omega arith) (omega arith) l.invariant.0 l.invariant.1
          ∙ ap extended c.all-cosine.ensures;
    }

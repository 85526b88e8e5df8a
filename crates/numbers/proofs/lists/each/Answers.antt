-- `numbers::lists::each` meets its contract. Assumes nothing.
use Rattle.rules.proofs.Common.{refl, nan}
use native.Mathlib.Omega.{arith}
use Rattle.rules.proofs.Lists.{mapping_begin, mapping_more, mapping_ended}
use Rattle.numbers.proofs.lists.each.Goals as goal

pub loop-x-init : goal.loop-x-init
loop-x-init g c = λ h gives. mapping_begin h nan _

pub loop-x-preserved : goal.loop-x-preserved
loop-x-preserved g c =
    let l = c.loop-x in
    λ h gives. mapping_more h nan _ l.x-index (l.invariant h gives) (omega arith) (gives _ _ c.f.ensures)

pub returns : goal.returns
returns g c =
    let l = c.loop-x in
    λ h gives. mapping_ended h nan _ l.x-index _ {now = l.xs} (omega arith) (omega arith) refl (l.invariant h gives)

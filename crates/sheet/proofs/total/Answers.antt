use Rattle.rules.proofs.Common.{refl, ap, ◌∙◌}
use native.Mathlib.Omega.{arith}
use lib.Seq.{take_all}
use Rattle.rules.specs.Lists.{sum}
use Rattle.sheet.proofs.Runs.{sum_more}
use Rattle.sheet.proofs.total.Goals as goal

pub loop-byte-init : goal.loop-byte-init
loop-byte-init c = (omega arith, refl, omega arith, refl)

pub overflow_add-sum : goal.overflow_add-sum
overflow_add-sum c = omega (arith, c.type_inv.bytes c.loop-byte.byte-index)

pub loop-byte-preserved : goal.loop-byte-preserved
loop-byte-preserved c =
    let l = c.loop-byte in let b = c.type_inv.bytes l.byte-index in
    (omega arith, refl, omega arith, sum_more _ l.byte-index (omega arith) l.invariant.3)

pub returns : goal.returns
returns c = let l = c.loop-byte in (l.invariant.3 ∙ ap sum (take_all l.byte-index _ (omega arith)), omega arith)

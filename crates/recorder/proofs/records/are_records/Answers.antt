use Rattle.rules.proofs.Common.{sym, ◌∙◌}
use native.Mathlib.Omega.{arith}
use Rattle.recorder.proofs.InRow.{records_begin, records_more, records_stop, records_ended}
use Rattle.recorder.proofs.records.are_records.Goals as goal

pub loop-i-init : goal.loop-i-init
loop-i-init c = (omega arith, records_begin _ _ _ _)

pub returns-then-not-is_record : goal.returns-then-not-is_record
returns-then-not-is_record c = let l = c.loop-i in sym (l.invariant.1
    ∙ records_stop _ _ _ _ l.i (omega arith) (sym c.is_record.ensures ∙ c.if-not-is_record.true))

pub loop-i-preserved : goal.loop-i-preserved
loop-i-preserved c =
    let l = c.loop-i in (
      omega arith,
      l.invariant.1 ∙ records_more _ _ _ _ l.i (omega arith)
          (sym c.is_record.ensures ∙ c.if-not-is_record.false),
    )

pub returns : goal.returns
returns c = let l = c.loop-i in sym (l.invariant.1 ∙ records_ended _ _ _ _ l.i (omega arith))

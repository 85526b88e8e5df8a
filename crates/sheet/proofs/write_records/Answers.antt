-- The loop's invariant: the first i records stand in front, and the rest is as it was. Assumes nothing.
use Rattle.std.specs.Prelude.{◌+◌}
use Rattle.rules.proofs.Common.{refl, ap, ◌∙◌, length, length-take, length-drop}
use native.Mathlib.Omega.{arith}
use Rattle.sheet.proofs.Laying.{length_record, length_laid, lay_more, lay_ended}
use Rattle.sheet.proofs.write_records.Goals as goal

pub loop-i-init : goal.loop-i-init
loop-i-init c = (omega arith, refl, c.requires.0, refl)

pub record_of-bytes-requires : goal.record_of-bytes-requires
record_of-bytes-requires c = c.requires.1 c.loop-i.i

pub copy_from_slice-requires : goal.copy_from_slice-requires
copy_from_slice-requires c =
    let size = ap length c.record_of-bytes.ensures ∙ length_record _ _ in
    simp (length-take, length-drop) (omega arith)

pub loop-i-preserved : goal.loop-i-preserved
loop-i-preserved c =
    let l = c.loop-i in
    let next = lay_more _ _ l.i c.args.out.now (omega arith)
    (c.copy_from_slice.ensures.after ∙ c.record_of-bytes.ensures) l.invariant.3 in
    (omega arith, refl, ap length next ∙ length_laid _ _ (l.i + 1) _ (omega arith) c.requires.0, next)

pub returns : goal.returns
returns c =
    let l = c.loop-i in
    lay_ended _ _ l.i _ (omega arith) (omega (arith, c.requires.0))
    l.invariant.3

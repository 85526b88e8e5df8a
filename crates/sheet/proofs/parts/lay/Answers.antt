use Rattle.rules.proofs.Common.{ap, ◌∙◌, length, length-take}
use native.Mathlib.Omega.{arith}
use lib.Seq.{take_all}
use Rattle.rules.specs.Lists.{sum}
use Rattle.sheet.proofs.Laying.{length_records}
use Rattle.sheet.proofs.parts.lay.Goals as goal

pub slice_bounds-total-end-2 : goal.slice_bounds-total-end-2
slice_bounds-total-end-2 c = simp length-take (omega arith)

pub total-requires : goal.total-requires
total-requires c =
    let size = ap length c.write_records.ensures
    ∙ length_records _ c.args.entries.now in
    simp length-take (omega (arith, c.requires.2))

pub returns : goal.returns
returns c =
    let l = c.write_records.new.out in
    let laid = c.write_records.ensures in
    (laid, c.total.ensures.0 ∙ ap sum (take_all (length l) l (omega arith) ∙ laid), c.total.ensures.1)

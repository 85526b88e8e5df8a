-- `at` is where the side is asked, behind both tests of the distance. Assumes nothing.
use Rattle.std.specs.Prelude.{◌+◌, ◌-◌}
use Rattle.rules.proofs.Common.{sym, ◌∙◌, length}
use native.Mathlib.Omega.{arith}
use Rattle.sheet.proofs.Halves.{distance_is, number_is, side_is, padded_is, at_31, at_32, at_32', at_33, at_33'}
use Rattle.sheet.proofs.Halves.{at_good}
use Rattle.sheet.proofs.pointed_to.Goals.{then-distance-records-via-then-distance-records}
use Rattle.sheet.proofs.pointed_to.Goals.{then-distance-records-via-else-distance-records+then-end-distance}
use Rattle.sheet.proofs.pointed_to.Goals.{then-side-gt1-via-then-side-gt1}
use Rattle.sheet.proofs.pointed_to.Goals.{then-side-gt1-via-else-side-gt1+then-not-zeros_at}
use Rattle.sheet.proofs.pointed_to.Goals as goal

pub returns-then-file-lt16 : goal.returns-then-file-lt16
returns-then-file-lt16 c = (at_31 _ c.if-file-lt16.true, tt)

pub returns-then-distance-records : goal.returns-then-distance-records
returns-then-distance-records c =
    let s = c.args.file.now in
    let ds = c.number_at-distance.ensures.0 ∙ sym (distance_is s) in
    let ns = c.number_at-records.ensures.0 ∙ sym (number_is s) in (
      elim c.then-distance-records.branch [
        | then-distance-records-via-then-distance-records w ↦ at_32 s ds ns (omega arith) w.if-distance-records.true
        | then-distance-records-via-else-distance-records+then-end-distance w ↦
            at_32' s ds ns (omega arith) w.if-distance-records.false w.if-end-distance.true
      ],
      tt,
    )

pub overflow_cast-side : goal.overflow_cast-side
overflow_cast-side c =
    let s = c.args.file.now in
    omega (arith, c.shared_slice_known-2-1.given (length s - 16 + 8))

pub returns-then-side-gt1 : goal.returns-then-side-gt1
returns-then-side-gt1 c =
    let s = c.args.file.now in
    let ds = c.number_at-distance.ensures.0 ∙ sym (distance_is s) in
    let ns = c.number_at-records.ensures.0 ∙ sym (number_is s) in
    let far = c.if-distance-records.false in
    let near = c.if-end-distance.false in (
      elim c.then-side-gt1.branch [
        | then-side-gt1-via-then-side-gt1 w ↦ at_33 s ds ns (omega arith) far near (sym (side_is s)) w.if-side-gt1.true
        | then-side-gt1-via-else-side-gt1+then-not-zeros_at w ↦
            at_33' s ds ns (omega arith) far near (sym (side_is s)) w.if-side-gt1.false
            (padded_is s ∙ sym w.zeros_at.ensures ∙ w.if-not-zeros_at.true)
      ],
      tt,
    )

pub returns : goal.returns
returns c =
    let s = c.args.file.now in
    let ds = c.number_at-distance.ensures.0 ∙ sym (distance_is s) in
    let ns = c.number_at-records.ensures.0 ∙ sym (number_is s) in
    let z = padded_is s ∙ sym c.zeros_at.ensures ∙ c.if-not-zeros_at.false in (
      at_good s ds ns (omega arith) c.if-distance-records.false
          c.if-end-distance.false (sym (side_is s)) c.if-side-gt1.false z,
      omega (arith, c.number_at-distance.ensures.1, c.if-distance-records.false),
    )

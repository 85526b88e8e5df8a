use Rattle.rules.proofs.Common.{ap, ◌∙◌, length, length-take}
use native.Mathlib.Omega.{arith}
use borrow.Author.Tests.{lt-ltb, le-ltb}
use borrow.Author.Rules.{rules}
use Rattle.rules.proofs.Tests.{tests}
use Rattle.sheet.specs.Rows.{trailer_laid}
use Rattle.sheet.proofs.Laying.{length_trailer}
use Rattle.sheet.proofs.Sided.{named, small, unnamed}
use Rattle.sheet.proofs.parts.trailer.Goals as goal

pub returns-then-count-gt536870911 : goal.returns-then-count-gt536870911
unfolding trailer_laid
returns-then-count-gt536870911 c = search tests

pub returns-in_default : goal.returns-in_default
unfolding trailer_laid
returns-in_default c =
    rw (le-ltb _ _ c.if-count-gt536870911.false, lt-ltb 1 _ (unnamed _ c.of_number.ensures (search rules)))

pub returns-then-out-lt16 : goal.returns-then-out-lt16
unfolding trailer_laid
returns-then-out-lt16 c =
    let less = small c.args.side c.in-Some.named c.of_number.ensures (search rules) in
    rw (le-ltb _ _ c.if-count-gt536870911.false, le-ltb 1 _ less, lt-ltb _ 16 c.if-out-lt16.true)

pub slice_bounds-copy_from_slice-end-2 : goal.slice_bounds-copy_from_slice-end-2
slice_bounds-copy_from_slice-end-2 c = simp length-take (omega (arith, c.if-out-lt16.false))

pub copy_from_slice-requires : goal.copy_from_slice-requires
copy_from_slice-requires c =
    let size = ap length c.trailer_of-bytes.ensures ∙ length_trailer _ _ _ in
    simp length-take (omega (arith, c.if-out-lt16.false))

pub returns : goal.returns
unfolding trailer_laid
returns c =
    rw (
      le-ltb _ _ c.if-count-gt536870911.false,
      le-ltb 1 _ (small c.args.side c.in-Some.named c.of_number.ensures (search rules)),
      le-ltb _ 16 c.if-out-lt16.false,
      c.copy_from_slice.ensures.after,
      c.trailer_of-bytes.ensures,
      named c.args.side c.in-Some.named c.of_number.ensures (search rules),
    )

use Rattle.rules.proofs.Common.{sym, ◌∙◌, length-take}
use native.Mathlib.Omega.{arith}
use borrow.Author.Tests.{lt-ltb, le-ltb}
use borrow.Author.Rules.{rules}
use Rattle.rules.proofs.Refusals.{leaves}
use Rattle.rules.proofs.Tests.{tests}
use Rattle.sheet.specs.Written.{written_of}
use Rattle.sheet.proofs.Runs.{all_heard}
use Rattle.sheet.proofs.Laying.{front_size, close_all}
use Rattle.sheet.proofs.Sided.{named, small, unnamed}
use Rattle.sheet.proofs.write.Goals as goal

pub returns-then-records-gt536870911 : goal.returns-then-records-gt536870911
unfolding written_of
returns-then-records-gt536870911 c = search tests

pub returns-in_default : goal.returns-in_default
unfolding written_of
returns-in_default c =
    rw (le-ltb _ _ c.if-records-gt536870911.false, lt-ltb 1 _ (unnamed _ c.of_number.ensures (search rules)))

pub returns-then-not-kinds_good : goal.returns-then-not-kinds_good
unfolding written_of
returns-then-not-kinds_good c =
    let heard = sym c.kinds_good.ensures ∙ c.if-not-kinds_good.true in
    let less = small c.args.side c.in-Some.named c.of_number.ensures (search rules) in
    rw (le-ltb _ _ c.if-records-gt536870911.false, le-ltb 1 _ less, heard)

pub returns-then-out-size : goal.returns-then-out-size
unfolding written_of
returns-then-out-size c =
    let heard = sym c.kinds_good.ensures ∙ c.if-not-kinds_good.false in
    let less = small c.args.side c.in-Some.named c.of_number.ensures (search rules) in
    rw (le-ltb _ _ c.if-records-gt536870911.false, le-ltb 1 _ less, heard, lt-ltb _ _ c.if-out-size.true)

pub slice_bounds-write_records-end-2 : goal.slice_bounds-write_records-end-2
slice_bounds-write_records-end-2 c = simp length-take (omega arith)

pub write_records-requires : goal.write_records-requires
write_records-requires c = (
  simp length-take (omega arith),
  all_heard _ (sym c.kinds_good.ensures ∙ c.if-not-kinds_good.false),
)

pub slice_bounds-close-end-2 : goal.slice_bounds-close-end-2
slice_bounds-close-end-2 c =
    let a = c.args in
    sym (front_size _ a.entries.now a.out.now c.write_records.ensures
    c.if-out-size.false)

pub close-requires : goal.close-requires
close-requires c =
    let a = c.args in (
      front_size _ a.entries.now a.out.now c.write_records.ensures
          c.if-out-size.false,
      omega (arith, c.if-records-gt536870911.false),
    )

pub returns : goal.returns
unfolding written_of
returns c =
    let heard = sym c.kinds_good.ensures
    ∙ c.if-not-kinds_good.false in
    let a =
    c.args in
    rw (
      le-ltb _ _ c.if-records-gt536870911.false,
      le-ltb 1 _ (small c.args.side c.in-Some.named c.of_number.ensures (search rules)),
      heard,
      le-ltb _ _ c.if-out-size.false,
      c.close.ensures,
      c.write_records.ensures,
      named c.args.side c.in-Some.named c.of_number.ensures (search rules),
    )
    (leaves (close_all (record { side = a.side; entries = a.entries.now }) a.out.now
    c.if-out-size.false))

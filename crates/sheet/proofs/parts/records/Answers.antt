use Rattle.rules.proofs.Common.{ℕ, sym, ap, ◌∙◌, length-take}
use native.Mathlib.Omega.{arith}
use borrow.Author.Rules.{rules}
use Rattle.rules.specs.Lists.{sum}
use Rattle.sheet.specs.Sheet.{records_of}
use Rattle.sheet.proofs.Runs.{all_heard}
use Rattle.sheet.proofs.Sided.{named, small, unnamed}
use Rattle.sheet.proofs.InRow.{rows_5, rows_32, rows_33, rows_34, rows_36, rows_laid}
use Rattle.sheet.proofs.parts.records.Goals.{then-more-gt536870911-via-then-more-gt536870911}
use Rattle.sheet.proofs.parts.records.Goals.{then-more-gt536870911-via-else-more-gt536870911+then-more-before}
use Rattle.sheet.proofs.parts.records.Goals as goal

pub returns-then-numbers-ne2 : goal.returns-then-numbers-ne2
returns-then-numbers-ne2 c = rows_5 _ _ _ _ c.if-numbers-ne2.true

pub returns-then-more-gt536870911 : goal.returns-then-more-gt536870911
returns-then-more-gt536870911 c =
    rows_32 _ _ _ _ c.if-numbers-ne2.false
    (elim c.then-more-gt536870911.branch [
      | then-more-gt536870911-via-then-more-gt536870911 w ↦ omega (arith, w.if-more-gt536870911.true)
      | then-more-gt536870911-via-else-more-gt536870911+then-more-before w ↦
          omega (arith, w.if-more-gt536870911.false, w.if-more-before.true)
    ])

pub returns-in_default : goal.returns-in_default
returns-in_default c =
    rows_33 _ _ _ _ c.if-numbers-ne2.false (omega arith) (unnamed _ c.of_number.ensures (search rules))

pub returns-then-not-kinds_good : goal.returns-then-not-kinds_good
returns-then-not-kinds_good c =
    rows_34 _ _ _ _ c.if-numbers-ne2.false (omega arith) (small _ c.in-Some.named c.of_number.ensures (search rules))
    (sym c.kinds_good.ensures ∙ c.if-not-kinds_good.true)

pub returns-then-out-end : goal.returns-then-out-end
returns-then-out-end c =
    rows_36 _ _ _ _ c.if-numbers-ne2.false (omega arith) (small _ c.in-Some.named c.of_number.ensures (search rules))
    (sym c.kinds_good.ensures ∙ c.if-not-kinds_good.false) c.if-out-end.true

pub lay-sum-requires : goal.lay-sum-requires
lay-sum-requires c = (
  simp length-take (omega arith),
  all_heard _ (sym c.kinds_good.ensures ∙ c.if-not-kinds_good.false),
  omega arith,
)

pub returns : goal.returns
returns c =
    rows_laid _ _ _ _ c.if-numbers-ne2.false (omega arith) (small _ c.in-Some.named c.of_number.ensures (search rules))
    (sym c.kinds_good.ensures ∙ c.if-not-kinds_good.false) c.if-out-end.false
    (c.lay-sum.ensures.0 ∙ ap (λ (k : ℕ). records_of k c.args.entries.now)
    (named _ c.in-Some.named c.of_number.ensures (search rules)))
    (c.lay-sum.ensures.1 ∙ ap (λ (k : ℕ). sum (records_of k c.args.entries.now))
    (named _ c.in-Some.named c.of_number.ensures (search rules)))

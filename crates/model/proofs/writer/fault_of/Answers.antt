-- Each table in turn. Assumes nothing.
use Rattle.std.specs.Prelude.{◌+◌}
use Rattle.rules.proofs.Common.{sym, refl, ◌∙◌}
use borrow.Author.Rules.{rules}
use Rattle.rules.specs.Lists.{sum}
use Rattle.model.proofs.Accepted.{bad_rows, clear_rows, bad_model, good_model, few_given}
use Rattle.model.proofs.Numbers.{misread_some}
use Rattle.model.proofs.writer.fault_of.Goals as goal

pub returns-in_err-layers_fault : goal.returns-in_err-layers_fault
returns-in_err-layers_fault c =
    let a = c.args in
    let due = bad_rows a.shapes.now a.lengths (18 + sum a.lengths) a.buffer c.in_err-layers_fault.ensures
    (misread_some c.in_err-layers_fault.field-0.0) in
    rw (← due) (search rules)

pub model_fault-requires : goal.model_fault-requires
model_fault-requires c =
    let a = c.args in
    let clear = clear_rows a.shapes.now a.lengths (18 + sum a.lengths) a.buffer c.in_ok-layers_fault.ensures refl in
    rw c.counts_given.ensures (few_given a.shapes.now a.lengths (18 + sum a.lengths) a.buffer clear)

pub returns-in_err-model_fault : goal.returns-in_err-model_fault
returns-in_err-model_fault c =
    let a = c.args in
    let clear = clear_rows a.shapes.now a.lengths (18 + sum a.lengths) a.buffer c.in_ok-layers_fault.ensures refl in
    let due = bad_model a.shapes.now a.lengths (18 + sum a.lengths) a.buffer clear
    (rw c.counts_given.ensures at c.in_err-model_fault.ensures)
    (misread_some c.in_err-model_fault.field-0.0) in
    rw (← due) (search rules)

pub returns-then-too_short : goal.returns-then-too_short
returns-then-too_short c =
    let a = c.args in
    let clear = clear_rows a.shapes.now a.lengths (18 + sum a.lengths) a.buffer c.in_ok-layers_fault.ensures refl in
    sym (good_model a.shapes.now a.lengths (18 + sum a.lengths) a.buffer clear
    (rw c.counts_given.ensures at c.in_ok-model_fault.ensures) refl
    ∙ rw (sym c.too_short.ensures ∙ c.if-too_short.true))

pub returns : goal.returns
returns c =
    let a = c.args in
    let clear = clear_rows a.shapes.now a.lengths (18 + sum a.lengths) a.buffer c.in_ok-layers_fault.ensures refl in
    sym (good_model a.shapes.now a.lengths (18 + sum a.lengths) a.buffer clear
    (rw c.counts_given.ensures at c.in_ok-model_fault.ensures) refl
    ∙ rw (sym c.too_short.ensures ∙ c.if-too_short.false))

use native.Mathlib.Omega.{arith}
use borrow.Author.Tests.{eq-eqb}
use Rattle.std.proofs.lemmas.Result.{err_from_is_err_and}
use Rattle.rules.proofs.Refusals.{leaves}
use Rattle.rules.proofs.Tests.{tests}
use Rattle.sheet.specs.Asked.{entry_at}
use Rattle.sheet.proofs.Halves.{read_within, entry_refused, entry_none, entry_found}
use Rattle.sheet.proofs.entry.Goals as goal

pub returns-then-entry-ne1 : goal.returns-then-entry-ne1
unfolding entry_at
returns-then-entry-ne1 c = search tests

pub returns-in_err-found : goal.returns-in_err-found
unfolding entry_at
returns-in_err-found c =
    let p = err_from_is_err_and c.from_residual.result c.from_residual.ensures.1 in
    rw (p.1, p.2, eq-eqb _ 1 c.if-entry-ne1.false, entry_refused _ _ _ c.in_err-found.ensures)

pub returns-then-found-index : goal.returns-then-found-index
unfolding entry_at
returns-then-found-index c =
    rw (eq-eqb _ 1 c.if-entry-ne1.false, entry_none _ _ _ c.in_ok-found.ensures c.if-found-index.true)

pub overflow_mul-index : goal.overflow_mul-index
overflow_mul-index c = omega (arith, read_within _ c.in_ok-found.ensures)

pub overflow_add-found : goal.overflow_add-found
overflow_add-found c = omega (arith, read_within _ c.in_ok-found.ensures)

pub entry_of-requires : goal.entry_of-requires
entry_of-requires c = omega (arith, read_within _ c.in_ok-found.ensures)

pub returns : goal.returns
unfolding entry_at
returns c =
    rw (
      eq-eqb _ 1 c.if-entry-ne1.false,
      entry_found _ _ _ c.in_ok-found.ensures c.if-found-index.false,
      ← c.entry_of.ensures,
    )
    (leaves c.copy_from_slice.ensures.after)

-- Each answer by what the file reads as. Assumes nothing.
use borrow.Author.Rules.{rules}
use borrow.Author.Tests.{eq-eqb}
use Rattle.rules.proofs.Tests.{tests}
use Rattle.model.specs.Summary.{summary_of}
use Rattle.model.proofs.summary.Goals as goal

pub returns-then-numbers-ne30 : goal.returns-then-numbers-ne30
unfolding summary_of
returns-then-numbers-ne30 c = search tests

pub returns-in_err-read : goal.returns-in_err-read
unfolding summary_of
returns-in_err-read c = rw (eq-eqb _ 30 c.if-numbers-ne30.false, ← c.in_err-read.ensures) (search rules)

pub returns : goal.returns
unfolding summary_of
returns c = rw (eq-eqb _ 30 c.if-numbers-ne30.false, c.fill.ensures, ← c.in_ok-read.ensures)

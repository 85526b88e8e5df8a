-- `numbers::ended` meets its contract. Assumes nothing.
use Rattle.numbers.proofs.NoNan.{nan_test}
use Rattle.numbers.proofs.ended.Goals as goal

pub returns-then-x : goal.returns-then-x
returns-then-x c = simp (← nan_test, c.if-x.true)

pub returns-then-not-x : goal.returns-then-not-x
returns-then-not-x c = simp (← nan_test, c.if-x.false, c.if-not-x.true)

pub returns-then-not-x-2 : goal.returns-then-not-x-2
returns-then-not-x-2 c = simp (← nan_test, c.if-x.false, c.if-not-x.false, c.if-not-x-2.true)

pub returns : goal.returns
returns c = simp (← nan_test, c.if-x.false, c.if-not-x.false, c.if-not-x-2.false)

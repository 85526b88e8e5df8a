-- `numbers::min` meets its contract: each arm returns what `smaller` picks under the tests that led there.
-- Assumes nothing.
use Rattle.numbers.proofs.NoNan.{nan_test}
use Rattle.numbers.proofs.min.Goals as goal

pub returns-then-a : goal.returns-then-a
returns-then-a c = simp (← nan_test, c.if-a.true)

pub returns-then-b-a : goal.returns-then-b-a
returns-then-b-a c = simp (← nan_test, c.if-a.false, c.if-b-a.true)

pub returns-else-b-a : goal.returns-else-b-a
returns-else-b-a c = simp (← nan_test, c.if-a.false, c.if-b-a.false)

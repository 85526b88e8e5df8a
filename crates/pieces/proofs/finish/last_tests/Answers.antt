-- `pieces::finish::last_tests` meets its contract. Assumes nothing.
use Rattle.frame.proofs.Answered.{tested_on, refused_lem}
use Rattle.pieces.proofs.finish.last_tests.Goals as goal

pub returns-in_err-check : goal.returns-in_err-check
returns-in_err-check c =
    let e = c.in_err-check in
    rw (tested_on _ _ c.from_residual.ensures.1, ← e.ensures, refused_lem e.field-0.0)

pub returns-then-not-fine : goal.returns-then-not-fine
returns-then-not-fine c = rw (← c.in_ok-check.ensures, c.if-not-fine.true)

pub returns : goal.returns
returns c = rw (← c.in_ok-check.ensures, c.if-not-fine.false)

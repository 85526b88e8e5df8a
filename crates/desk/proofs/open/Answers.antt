-- `desk::open` meets its contract: the gate turns it away, the model is refused, or the side's share is wiped.
-- Assumes nothing.
use Rattle.rules.specs.Place.{get, put}
use Rattle.desk.proofs.Serve.{turned_away_lem, misread, wiped}
use Rattle.desk.proofs.open.Goals as goal

pub returns-in_err-share : goal.returns-in_err-share
unfolding get put
returns-in_err-share c = turned_away_lem _ _ _ _ _ _ _ _ c.in_err-share.ensures.gated c.from_residual.ensures.1

pub returns-in_err-answer : goal.returns-in_err-answer
unfolding get put
returns-in_err-answer c =
    misread _ _ _ _ _ _ c.in_ok-share.ensures.gated _ _ c.from_residual-in_err-answer.ensures.1
    (rw c.read.ensures at c.in_err-answer.ensures)

pub returns : goal.returns
unfolding get put
returns c =
    let admitted = c.in_ok-share.ensures in
    wiped _ _ _ _ _ _ admitted.gated _ _ (rw c.read.ensures at c.in_ok-answer.ensures) admitted.share _
    c.clear.ensures

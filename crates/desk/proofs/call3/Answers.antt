-- `desk::call3` meets its contract: the gate turns it away, or a frame's part of the side's share is lent to
-- `frame::call3`. Assumes nothing.
use Rattle.rules.specs.Place.{get, put}
use Rattle.desk.proofs.Serve.{turned_away_lem, framed}
use Rattle.desk.proofs.call3.Goals as goal

pub returns-in_err-share : goal.returns-in_err-share
unfolding get put
returns-in_err-share c = turned_away_lem _ _ _ _ _ _ _ _ c.in_err-share.ensures.gated c.from_residual.ensures.1

pub returns : goal.returns
unfolding get put
returns c =
    let admitted = c.in_ok-share.ensures in
    framed _ _ _ _ _ _ admitted.gated admitted.share c.call3-outcome.ensures (λ e. rw e) c.told.ensures

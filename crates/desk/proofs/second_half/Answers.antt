-- `desk::second_half` meets its contract: the gate turns it away, or a frame's part of the side's share is lent to
-- `halves::second_half`. Assumes nothing.
use Rattle.rules.proofs.Common.{ap, ◌∙◌}
use Rattle.rules.specs.Place.{get, put}
use Rattle.desk.specs.Answer.{answer_of}
use Rattle.desk.proofs.Results.{second_answered}
use Rattle.desk.proofs.Serve.{turned_away_lem, framed}
use Rattle.desk.proofs.second_half.Goals as goal

pub returns-in_err-share : goal.returns-in_err-share
unfolding get put
returns-in_err-share c = turned_away_lem _ _ _ _ _ _ _ _ c.in_err-share.ensures.gated c.from_residual.ensures.1

pub returns : goal.returns
unfolding get put
returns c =
    let admitted = c.in_ok-share.ensures in
    framed _ _ _ _ _ _ admitted.gated admitted.share c.second_half-outcome.ensures (λ e. rw e)
    (ap (answer_of c.args.rec) c.told_second.ensures ∙ second_answered c.args.rec c.second_half-outcome.result)

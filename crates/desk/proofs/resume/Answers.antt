-- `desk::resume` meets its contract: the gate turns it away, or the side's share is lent to `pieces::resume`.
-- Assumes nothing.
use Rattle.rules.specs.Place.{get, put}
use Rattle.desk.proofs.Pieced.{resume_told}
use Rattle.desk.proofs.Results.{on_done}
use Rattle.desk.proofs.Serve.{turned_away_lem, served}
use Rattle.desk.proofs.resume.Goals as goal

pub returns-in_err-share : goal.returns-in_err-share
unfolding get put
returns-in_err-share c = turned_away_lem _ _ _ _ _ _ _ _ c.in_err-share.ensures.gated c.from_residual.ensures.1

pub told_resume-requires : goal.told_resume-requires
unfolding get put
told_resume-requires c = on_done _ (resume_told _ _ _ _ _ _ _ _ _ c.resume-outcome.ensures.answers)

pub returns : goal.returns
unfolding get put
returns c =
    let admitted = c.in_ok-share.ensures in
    served _ _ _ _ _ _ admitted.gated admitted.share c.resume-outcome.ensures c.told_resume.ensures

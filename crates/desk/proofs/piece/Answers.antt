-- `desk::piece` meets its contract: the gate turns it away, or the side's share is lent to `pieces::piece`.
-- Assumes nothing.
use Rattle.rules.specs.Place.{get, put}
use Rattle.desk.proofs.Pieced.{piece_told}
use Rattle.desk.proofs.Results.{on_done}
use Rattle.desk.proofs.Serve.{turned_away_lem, served}
use Rattle.desk.proofs.piece.Goals as goal

pub returns-in_err-share : goal.returns-in_err-share
unfolding get put
returns-in_err-share c = turned_away_lem _ _ _ _ _ _ _ _ c.in_err-share.ensures.gated c.from_residual.ensures.1

pub told_piece-requires : goal.told_piece-requires
unfolding get put
told_piece-requires c = on_done _ (piece_told _ _ _ _ _ _ c.piece-outcome.ensures.answers)

pub returns : goal.returns
unfolding get put
returns c =
    let admitted = c.in_ok-share.ensures in
    served _ _ _ _ _ _ admitted.gated admitted.share c.piece-outcome.ensures c.told_piece.ensures

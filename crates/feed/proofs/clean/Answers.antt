-- `feed::clean` meets its contract: what is taken is handed out. Assumes nothing.
use mathlib.Core.Path.{refl}
use Rattle.desk.proofs.Results.{done_passes, refused_fails, same_error}
use Rattle.feed.proofs.Handed.{handed, unhanded}
use Rattle.feed.proofs.clean.Goals as goal

pub returns-in_err-answer : goal.returns-in_err-answer
returns-in_err-answer c =
    rw (same_error _ _ c.from_residual.ensures.1)
    (unhanded _ _ _ _ _ _ c.in_err-answer.ensures refl (refused_fails c.in_err-answer.field-0.0))

pub returns : goal.returns
returns c =
    handed _ _ _ _ _ _ c.in_ok-answer.ensures refl (done_passes _) c.side_of-own.ensures _ refl c.hand_out.ensures

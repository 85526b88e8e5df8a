-- The three numbers of an outcome are those of its reply, however a reason for a refusal is read. Assumes nothing.
use Rattle.std.specs.Prelude.{◌≡◌, Ok, Err}
use Rattle.rules.proofs.Common.{false, false≢true, refl, sym}
use Rattle.rules.specs.F32.{zeros}
use Rattle.frame.specs.Reply.{Reply, passed}
use Rattle.frame.specs.Reply.{Done, Silent, Heard, Numbered, Refused, Misread}
use Rattle.frame.specs.Answer.{reply_refused}
use Rattle.frame.specs.declared.answer.Cause.{Cause}
use Rattle.desk.specs.Surface.{heard_of}
use Rattle.desk.proofs.Results.{refused_fails}
use Rattle.whole.specs.Laws.{HeardTold, HeardAnswered}

-- what does not pass gives zeros
unheard : (reply : Reply) → passed reply ≡ false → zeros 3 ≡ heard_of reply
unheard Done p = absurd (false≢true (sym p))
unheard Silent p = absurd (false≢true (sym p))
unheard (Heard v e) p = absurd (false≢true (sym p))
unheard (Numbered f h) p = absurd (false≢true (sym p))
unheard (Refused n) p = refl
unheard (Misread n l) p = refl

pub heard_told_lem : HeardTold
heard_told_lem _ reads fails (Ok told) = refl
heard_told_lem _ reads fails (Err why) = unheard (reads why) (fails why)

pub heard_answered : HeardAnswered
heard_answered (Ok told) = refl
heard_answered (Err why) = heard_told_lem Cause reply_refused refused_fails (Err why)

-- What a call of the desk answers: its reply, and the record as it then stands.
use Rattle.std.specs.Prelude.{Result, Ok, Err}
use Rattle.frame.specs.Reply.{Reply}
use Rattle.frame.specs.Answer.{reply_told, reply_refused}
use Rattle.frame.specs.declared.answer.Told.{Told}
use Rattle.frame.specs.declared.answer.Cause.{Cause}
use Rattle.desk.specs.declared.Record.{Record}

pub record Answer : Type 0 where
  pub reply : Reply
  pub rec : Record

-- The answer of a result. A call that is refused leaves the record as it was.
abbrev pub answer_of : Record → Result (Told × Record) Cause → Answer
answer_of rec (Ok (told, next)) = record { reply = reply_told told; rec = next }
answer_of rec (Err why) = record { reply = reply_refused why; rec = rec }

-- The reply of an outcome and the answer of a result where anything may be the reason for a refusal: `reads` says which
-- reply a reason is. At the desk's own reasons and `reply_refused` these are `as_reply` and `answer_of`.
abbrev pub reply_by : {E : Type 0} → (E → Reply) → Result Told E → Reply
reply_by reads (Ok told) = reply_told told
reply_by reads (Err why) = reads why

abbrev pub answer_by : {E : Type 0} → (E → Reply) → Record → Result (Told × Record) E → Answer
answer_by reads rec (Ok (told, next)) = record { reply = reply_told told; rec = next }
answer_by reads rec (Err why) = record { reply = reads why; rec = rec }

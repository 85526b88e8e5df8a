-- The reply of an answer: what a call's result says in the words of specs/Reply, with the numbers of docs/REFUSALS.md.
use Rattle.std.specs.Prelude.{Result, Ok, Err}
use Rattle.rules.specs.Refusal.{refusal_number}
use Rattle.frame.specs.Reply.{Reply, Done, Silent, Heard, Numbered, Refused, Misread}
use Rattle.frame.specs.declared.answer.Told.{Told}
use Rattle.frame.specs.declared.answer.Told.TheVariants as told
use Rattle.frame.specs.declared.answer.Cause.{Cause}
use Rattle.frame.specs.declared.answer.Cause.TheVariants as cause

-- What a call that is done tells.
abbrev pub reply_told : Told → Reply
reply_told told.Done = Done
reply_told told.Silent = Silent
reply_told (told.Heard voice energy) = Heard voice energy
reply_told (told.Numbered frames heard) = Numbered frames heard

-- Why a call is refused.
abbrev pub reply_refused : Cause → Reply
reply_refused (cause.Plain refusal) = Refused (refusal_number refusal)
reply_refused (cause.Model misread) = Misread (refusal_number misread.refusal) misread.layer

abbrev pub as_reply : Result Told Cause → Reply
as_reply (Ok told) = reply_told told
as_reply (Err why) = reply_refused why

-- The same of a test, which tells no more than that nothing is refused.
abbrev pub test_as_reply : Result Unit Cause → Reply
test_as_reply (Ok _) = Done
test_as_reply (Err why) = reply_refused why

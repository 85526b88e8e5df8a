-- For the parts of the code.
use Rattle.std.specs.Prelude.{◌<◌, ◌≡◌, Result, Ok, Err}
use Rattle.rules.specs.Common.{ℕ, true, List, length}
use Rattle.frame.specs.Answer.{reply_told, reply_refused}
use Rattle.frame.specs.Reply.{Reply, passed}
use Rattle.frame.specs.declared.answer.Told.{Told}
use Rattle.frame.specs.declared.answer.Cause.{Cause}
use Rattle.desk.specs.Answer.{Answer}
use Rattle.desk.specs.declared.Record.{Record}
use Rattle.desk.specs.Gate.{BENCHES}
use Rattle.desk.specs.Surface.{RECORD}
use Rattle.desk.proofs.Ranged.{Bounded}

-- the reply of a result
abbrev pub reply_in : Result (Told × Record) Cause → Reply
reply_in (Ok (told, next)) = reply_told told
reply_in (Err why) = reply_refused why

-- an answer to this side can be handed back
pub record HandsBack (side : ℕ) (ns : List ℕ) (a : Answer) : Type 0 where
  pub fits : passed a.reply ≡ true → (length ns ≡ RECORD) × Bounded a.rec × (side < BENCHES)

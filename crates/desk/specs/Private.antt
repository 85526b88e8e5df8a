-- For the contracts of private functions.
use Rattle.std.specs.Prelude.{◌+◌, ◌-◌, ◌≤◌, ◌≡◌, Result, Ok, Err, IfOk}
use Rattle.rules.specs.Common.{ℕ, cond}
use Rattle.rules.specs.Refusal.{told}
use Rattle.rules.specs.declared.refusal.Refusal.{Refusal}
use Rattle.model.specs.Reading.{Reading, Good, Refused as Unread}
use Rattle.frame.specs.Share.{SHARE, PART}
use Rattle.frame.specs.Reply.{passed, one_more}
use Rattle.frame.specs.Reply.{Reply}
use Rattle.frame.specs.Reply.{Done, Numbered, Misread}
use Rattle.frame.specs.Answer.{reply_told}
use Rattle.frame.specs.declared.answer.Told.{Told}
use Rattle.frame.specs.declared.Way.{Way}
use Rattle.desk.specs.Gate.{gate, share_of}
use Rattle.desk.specs.Desk.{advanced, numbered, carried, started}
use Rattle.desk.specs.declared.Record.{Record}
use Rattle.desk.specs.Answer.{Answer}
use Rattle.desk.specs.declared.Share.{Share}

-- Where a side's share lies, of which a frame's part is the front. It ends within the store.
pub record Lies (side len : ℕ) (share : Share) : Type 0 where
  pub start : share.start ≡ (share_of side).at
  pub part : share.part ≡ (share_of side).at + PART
  pub end : share.end ≡ (share_of side).at + SHARE
  pub inside : share.end ≤ len

-- What the gate says, and the side's share where it lets the call through.
pub record Admits (benches side : ℕ) (rec : Record) (len call : ℕ) (result : Result Share Refusal) : Type 0 where
  pub gated : told result ≡ gate benches side rec len call
  pub share : IfOk result (Lies side len)

-- The answers of calls 1 to 3; of call 4; of the first half; of the second half.
abbrev pub told_of : Record → Reply → Answer
told_of rec reply = record { reply = reply; rec = cond (passed reply) (advanced rec reply) rec }

abbrev pub told_fourth : Record → Reply → Answer
told_fourth rec reply =
    record {
      reply = cond (passed reply) (Numbered (one_more rec.frame) rec.heard) reply;
      rec = cond (passed reply) (numbered rec) rec;
    }

abbrev pub told_first : Record → Reply → Answer
told_first rec reply = record { reply = reply; rec = cond (passed reply) (advanced (advanced rec reply) reply) rec }

abbrev pub told_second : Record → Reply → Answer
told_second rec reply = record { reply = reply; rec = cond (passed reply) (numbered (advanced rec reply)) rec }

-- What the second half gives, whatever the reason for a refusal is: the reason is handed on. By the law `SecondTold` it
-- is `told_second`, however a reason is read.
abbrev pub after_second : {E : Type 0} → Record → Result Told E → Result (Told × Record) E
after_second rec (Ok told) = Ok (told, numbered (advanced rec (reply_told told)))
after_second rec (Err why) = Err why

-- The answers of a piece and of a resume with so many samples.
abbrev pub told_piece : Record → ℕ → Reply → Answer
told_piece rec size reply =
    record {
      reply = reply;
      rec = cond (passed reply) (carried rec (rec.waiting + size) size (480 - rec.waiting)) rec;
    }

abbrev pub told_resume : Record → ℕ → Reply → Answer
told_resume rec size reply =
    record {
      reply = reply;
      rec =
          cond (passed reply) (carried (numbered (advanced rec reply)) (size - rec.progress) size
          (rec.progress + 480)) rec;
    }

-- The answer of an opening.
abbrev pub opened_of : Record → Way → Reading → Answer
opened_of rec way (Good m) = record { reply = Done; rec = started rec way (Good m) }
opened_of rec way (Unread n l) = record { reply = Misread n l; rec = rec }

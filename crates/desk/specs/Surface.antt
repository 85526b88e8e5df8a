-- The desk for a host that has only numbers: what the functions of the C surface return and leave.
use Rattle.std.specs.Prelude.{◌+◌, ◌*◌, ◌&&◌, ◌∷◌, ◌++◌}
use Rattle.rules.specs.Common.{ℕ, cond, List, [], eqb, leb, length, get_or, replicate, Float}
use Rattle.rules.specs.F32.{f32}
use Rattle.frame.specs.Written.{Written, all}
use Rattle.frame.specs.Effect.{Effect}
use Rattle.frame.specs.Reply.{passed}
use Rattle.frame.specs.declared.Hearing.{Hearing}
use Rattle.frame.specs.Reply.{Reply}
use Rattle.frame.specs.Reply.{Done, Silent, Heard, Numbered, Refused, Misread}
use Rattle.frame.specs.declared.Way.{Way}
use Rattle.frame.specs.declared.Way.TheVariants.{Own, Nnnoiseless}
use Rattle.desk.specs.Gate.{way_number}
use Rattle.desk.specs.Desk.{Ask, opening, call1, call2, call2_own, call3, call4, first_half, second_half, piece}
use Rattle.desk.specs.Desk.{resume, record_of, holding, no_hearing, desk}
use Rattle.desk.specs.declared.Record.{Record}
use Rattle.desk.specs.Answer.{Answer}

-- A host keeps a record as twelve numbers. The last one says to which bench the record belongs.
abbrev pub RECORD : ℕ
RECORD = 12

-- The last number: the bench's number plus 1 if the record is open, 0 if it is closed.
abbrev pub bench_number : ℕ → ℕ → ℕ
bench_number side due = cond (eqb due 0) 0 (side + 1)

-- The numbers of a record of this bench.
abbrev pub numbers_of : ℕ → Record → List ℕ
numbers_of side rec =
    let h = rec.hearing in
    rec.due ∷ h.index ∷ h.vad ∷ h.noise ∷ h.denoise ∷ rec.frame ∷ rec.heard ∷ rec.waiting ∷ rec.piece
    ∷ rec.progress ∷ way_number h.way
    ∷ bench_number side rec.due ∷ []

abbrev pub way_in : ℕ → Way
way_in n = cond (eqb n 0) Own Nnnoiseless

abbrev pub hearing_in : List ℕ → Hearing
hearing_in ns =
    record {
      index = get_or ns 1 0;
      vad = get_or ns 2 0;
      noise = get_or ns 3 0;
      denoise = get_or ns 4 0;
      way = way_in (get_or ns 10 0);
    }

-- The record of this bench, from its numbers. If there are not twelve, or one of them is no way, or they are
-- another bench's, the record is out of range.
unfoldable pub record_in : ℕ → List ℕ → Record
record_in side ns =
    cond (eqb (length ns) RECORD && (leb (get_or ns 10 0) 1
    && eqb (get_or ns 11 0) (bench_number side (get_or ns 0 0))))
    (holding (get_or ns 0 0) (record_of 0 (hearing_in ns) (get_or ns 5 0) (get_or ns 6 0)) (get_or ns 7 0)
    (get_or ns 8 0)
    (get_or ns 9 0))
    (record_of 5 no_hearing 0 0)

-- The number of a reply: 0, or the refusal. A 7 also has the model's own refusal and layer.
abbrev pub seven_of : ℕ → ℕ → ℕ
seven_of number layer = 7 + 256 * number + 65536 * layer

abbrev pub reply_number : Reply → ℕ
reply_number Done = 0
reply_number Silent = 0
reply_number (Heard v e) = 0
reply_number (Numbered f h) = 0
reply_number (Refused n) = n
reply_number (Misread n l) = seven_of n l

-- The answer as three numbers: heard (1 or 0), voice, energy. Call 3, the second half and a resume write it
-- to one buffer more.
abbrev pub heard_of : Reply → List Float
heard_of (Heard v e) = f32 0x3F80_0000 ∷ v ∷ e ∷ []
heard_of Done = replicate 3 (f32 0)
heard_of Silent = replicate 3 (f32 0)
heard_of (Numbered f h) = replicate 3 (f32 0)
heard_of (Refused n) = replicate 3 (f32 0)
heard_of (Misread n l) = replicate 3 (f32 0)

abbrev pub told_besides : Reply → List Written
told_besides reply = cond (passed reply) (all (heard_of reply) ∷ []) []

abbrev pub besides : Ask → Reply → List Written
besides (call3 x l m o) reply = told_besides reply
besides (opening w m) reply = []
besides (call1 x w) reply = []
besides (call2 x l w s) reply = []
besides (call2_own x w s) reply = []
besides (call4 x o) reply = []
besides (first_half x s) reply = []
besides (second_half l m o) reply = told_besides reply
besides (piece x o s) reply = []
besides (resume x l m o s) reply = told_besides reply

-- If that buffer has not three places, the call counts as lent an `out` of no places, so that it is refused
-- with 5.
abbrev pub out_of : ℕ → ℕ → ℕ
out_of answer out = cond (eqb answer 3) out 0

-- A call that also writes its answer as three numbers.
abbrev pub telling : Effect Answer → Effect Answer
telling o = record { answer = o.answer; kept = o.kept; written = o.written ++ told_besides o.answer.reply }

-- A call of the desk, with the record given as numbers.
unfoldable pub hosted : ℕ → ℕ → List ℕ → List Float → Ask → Effect Answer
hosted benches side ns store ask =
    let o = desk benches side (record_in side ns) store ask in
    record { answer = o.answer; kept = o.kept; written = o.written ++ besides ask o.answer.reply }

-- The record that comes back. A refusal leaves it.
abbrev pub handed_back : ℕ → Answer → List ℕ → List ℕ
handed_back side answer ns = cond (passed answer.reply) (numbers_of side answer.rec) ns

-- What a host is handed: the number and the record take the place of the answer.
abbrev pub handed : ℕ → List ℕ → Effect Answer → Effect (ℕ × List ℕ)
handed side ns o =
    record {
      answer = (reply_number o.answer.reply, handed_back side o.answer ns);
      kept = o.kept;
      written = o.written;
    }

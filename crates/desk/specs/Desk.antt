-- What a call of the desk gives. The desk's contracts cite this definition, and the law of isolation is about
-- it.
use Rattle.std.specs.Prelude.{◌+◌, ◌-◌, ◌&&◌}
use Rattle.rules.specs.Common.{ℕ, cond, List, [], eqb, ltb, length, Float}
use Rattle.rules.specs.F32.{zeros}
use Rattle.rules.specs.Place.{get, put}
use Rattle.model.specs.Model.{read_of}
use Rattle.model.specs.Reading.{Reading, Good, Refused as Unread}
use Rattle.frame.specs.Share.{SHARE}
use Rattle.frame.specs.Frame as frame
use Rattle.halves.specs.Halves as halves
use Rattle.pieces.specs.Pieces.{frame_part, in_part}
use Rattle.pieces.specs.Pieces as pieces
use Rattle.frame.specs.Effect.{Effect, refusal}
use Rattle.frame.specs.Reply.{passed, is_heard, one_more}
use Rattle.frame.specs.declared.Hearing.{Hearing}
use Rattle.frame.specs.Reply.{Reply}
use Rattle.frame.specs.Reply.{Done, Numbered, Refused, Misread}
use Rattle.frame.specs.declared.Way.{Way}
use Rattle.frame.specs.declared.Way.TheVariants.{Own}
use Rattle.desk.specs.Gate.{PIECE, RESUME, gate, share_of}
use Rattle.desk.specs.declared.Record.{Record}
use Rattle.desk.specs.Answer.{Answer}

-- A call with its arguments. Of an answer buffer only the length is an argument, not what it held.
pub data Ask : Type 0 where
  -- open the bench, in this way
  opening : (way : Way) (model : List ℕ) → Ask
  -- the four calls of a frame
  call1 : (samples : List Float) (window : ℕ) → Ask
  call2 : (spectrum : List Float) (lag window sums : ℕ) → Ask
  -- call 2's sister, which finds the lag by our own rule
  call2_own : (spectrum : List Float) (window sums : ℕ) → Ask
  call3 : (spectrum logs : List Float) (model : List ℕ) (out : ℕ) → Ask
  call4 : (inverse : List Float) (out : ℕ) → Ask
  -- calls 1 and 2 in one, and calls 3 and 4 in one, with the bench's own lag and transforms
  first_half : (samples : List Float) (sums : ℕ) → Ask
  second_half : (logs : List Float) (model : List ℕ) (out : ℕ) → Ask
  -- a piece of dictation, and its resume with the logarithms of a frame
  piece : (samples : List Float) (out sums : ℕ) → Ask
  resume : (samples logs : List Float) (model : List ℕ) (out sums : ℕ) → Ask

-- The number of a call at the gate. A half has the number of the first of its two calls.
abbrev pub call_of : Ask → ℕ
call_of (opening w m) = 0
call_of (call1 x w) = 1
call_of (call2 x l w s) = 2
call_of (call2_own x w s) = 2
call_of (call3 x l m o) = 3
call_of (call4 x o) = 4
call_of (first_half x s) = 1
call_of (second_half l m o) = 3
call_of (piece x o s) = PIECE
call_of (resume x l m o s) = RESUME

-- ---- one side's record

-- A record at which nothing waits and no piece is unfinished. Every record is made from this one.
abbrev pub record_of : ℕ → Hearing → ℕ → ℕ → Record
record_of due hearing frame heard =
    record { due = due; hearing = hearing; frame = frame; heard = heard; waiting = 0; piece = 0; progress = 0 }

-- The same record, but with another call due, other samples waiting and another piece under way.
abbrev pub holding : ℕ → Record → ℕ → ℕ → ℕ → Record
holding due rec waiting size progress =
    record {
      due = due;
      hearing = rec.hearing;
      frame = rec.frame;
      heard = rec.heard;
      waiting = waiting;
      piece = size;
      progress = progress;
    }

-- What a bench is noted with before any opening.
abbrev pub no_hearing : Hearing
no_hearing = record { index = 0; vad = 0; noise = 0; denoise = 0; way = Own }

abbrev pub closed : Record
closed = record_of 0 no_hearing 0 0

-- The call that is due after this one: after call 4 it is call 1.
abbrev pub next_due : ℕ → ℕ
next_due call = cond (ltb call 4) (call + 1) 1

-- A heard frame moves the cepstral index on; 0 follows 7. Rust: `mem_id` in `compute_frame_features`.
abbrev pub next_index : ℕ → Reply → ℕ
next_index i reply = cond (is_heard reply) (cond (ltb i 7) (i + 1) 0) i

-- Nothing else of what the opening noted changes.
abbrev pub next_hearing : Hearing → Reply → Hearing
next_hearing hearing reply =
    record {
      index = next_index hearing.index reply;
      vad = hearing.vad;
      noise = hearing.noise;
      denoise = hearing.denoise;
      way = hearing.way;
    }

-- A heard frame is counted (request 07).
abbrev pub next_heard : ℕ → Reply → ℕ
next_heard n reply = cond (is_heard reply) (one_more n) n

abbrev pub advanced : Record → Reply → Record
advanced rec reply =
    record_of (next_due rec.due) (next_hearing rec.hearing reply) rec.frame (next_heard rec.heard reply)

-- The record after call 4, which ends a frame and counts it.
abbrev pub numbered : Record → Record
numbered rec = record_of (next_due rec.due) rec.hearing (one_more rec.frame) rec.heard

-- The record when `rest` samples of a piece of this size are in no frame yet. Fewer than 480 wait for the
-- next piece. Otherwise a frame is under way, and the piece has made this progress.
unfoldable pub carried : Record → ℕ → ℕ → ℕ → Record
carried rec rest size progress = cond (ltb rest 480) (holding 1 rec rest 0 0) (holding 3 rec 0 size progress)

-- The record after an opening: it notes the GRU sizes and the way, makes call 1 due, and numbers frames from
-- 0.
abbrev pub started : Record → Way → Reading → Record
started rec way (Good m) =
    record_of 1
    (record {
      index = 0;
      vad = m.vad_gru.neurons;
      noise = m.noise_gru.neurons;
      denoise = m.denoise_gru.neurons;
      way = way;
    }) 0 0
started rec way (Unread n l) = rec

-- The record after a call that was not refused. A half is two calls: the first moves it on twice, the second
-- as call 3 and then call 4 do. So does a resume.
abbrev pub recorded : Record → Ask → Reply → Record
recorded rec (opening w m) reply = started rec w (read_of m)
recorded rec (call1 x w) reply = advanced rec reply
recorded rec (call2 x l w s) reply = advanced rec reply
recorded rec (call2_own x w s) reply = advanced rec reply
recorded rec (call3 x l m o) reply = advanced rec reply
recorded rec (call4 x o) reply = numbered rec
recorded rec (first_half x s) reply = advanced (advanced rec reply) reply
recorded rec (second_half l m o) reply = numbered (advanced rec reply)
recorded rec (piece x o s) reply = carried rec (rec.waiting + length x) (length x) (480 - rec.waiting)
recorded rec (resume x l m o s) reply =
    carried (numbered (advanced rec reply)) (length x - rec.progress) (length x) (rec.progress + 480)

-- The reply to a call. Call 4 is answered with the number of frames and of heard frames, after the call
-- (request 07).
abbrev pub reply_to : Record → Ask → Reply → Reply
reply_to rec ask reply = cond (eqb (call_of ask) 4 && passed reply) (Numbered (one_more rec.frame) rec.heard) reply

-- The answer, given what the call on the share replied. A refusal leaves the record.
abbrev pub answered : Record → Ask → Reply → Answer
answered rec ask reply =
    record { reply = reply_to rec ask reply; rec = cond (passed reply) (recorded rec ask reply) rec }

-- ---- one side's share

-- An opening fills the share with zeros, whatever it held.
abbrev pub opened : List Float → Reading → Effect Reply
opened share (Good m) = record { answer = Done; kept = zeros SHARE; written = [] }
opened share (Unread n l) = refusal (Misread n l) share

-- A call on the bench's share. A call of a frame is lent the frame's part alone; a piece is lent the whole
-- share.
abbrev pub on_share : Record → List Float → Ask → Effect Reply
on_share rec share (opening w m) = opened share (read_of m)
on_share rec share (call1 x w) = in_part share (frame.call1 (get frame_part share) x w)
on_share rec share (call2 x l w s) = in_part share (frame.call2 (get frame_part share) x l w s)
on_share rec share (call2_own x w s) = in_part share (halves.call2_own (get frame_part share) x w s)
on_share rec share (call3 x l m o) = in_part share (frame.call3 (get frame_part share) rec.hearing x l m o)
on_share rec share (call4 x o) = in_part share (frame.call4 (get frame_part share) x o)
on_share rec share (first_half x s) = in_part share (halves.first_half (get frame_part share) rec.hearing.way x s)
on_share rec share (second_half l m o) = in_part share (halves.second_half (get frame_part share) rec.hearing l m o)
on_share rec share (piece x o s) = pieces.piece share rec.hearing.way rec.waiting x o s
on_share rec share (resume x l m o s) = pieces.resume share rec.hearing rec.piece rec.progress x l m o s

-- The call on the share if the gate's number is 0, otherwise the gate's refusal.
abbrev pub admitted : Record → List Float → Ask → ℕ → Effect Reply
admitted rec share ask number = cond (eqb number 0) (on_share rec share ask) (refusal (Refused number) share)

-- ---- the desk: the side's record and share are worked on, and nothing else

-- A call on one of `benches` sides of a store, with the side's record: the refusals of the gate, then the
-- call on the share. Only the side's own share changes.
unfoldable pub desk : ℕ → ℕ → Record → List Float → Ask → Effect Answer
desk benches side rec store ask =
    let f = admitted rec (get (share_of side) store) ask (gate benches side rec (length store) (call_of ask)) in
    record { answer = answered rec ask f.answer; kept = put (share_of side) store f.kept; written = f.written }

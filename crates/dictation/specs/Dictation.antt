-- Dictation by frames (request 12): 480 samples at a time, each frame with what is lent to it; the rest
-- waits. There are no pieces here.
use Rattle.std.specs.Prelude.{◌∷◌, ◌++◌}
use Rattle.rules.specs.Common.{ℕ, List, [], length, take, drop, Float}
use Rattle.rules.specs.Place.{get, put}
use Rattle.frame.specs.Written.{first_in}
use Rattle.frame.specs.Effect.{Effect}
use Rattle.frame.specs.Reply.{Reply}
use Rattle.halves.specs.Halves.{first_half, second_half}
use Rattle.pieces.specs.Pieces.{frame_part, waiting_in, waits}
use Rattle.desk.specs.Answer.{Answer}
use Rattle.desk.specs.declared.Record.{Record}
use Rattle.desk.specs.Gate.{share_of}
use Rattle.desk.specs.Desk.{holding, advanced, numbered}

-- What is lent to a frame: its logarithms, as a function of its 22 sums, and a model.
pub record Lent : Type 0 where
  pub logs : List Float → List Float
  pub model : List ℕ

-- What is reported of a frame: its sums, its reply, and the record after it.
abbrev pub Told : Type 0
Told = List Float × Reply × Record

-- The outcome of a dictation: the record at the end, the share or store that is left, what is reported of
-- each frame, and the output.
pub record Dictated : Type 0 where
  pub rec : Record
  pub kept : List Float
  pub told : List Told
  pub out : List Float

-- One frame on a share: a first half, then a second half with what is lent for the first one's sums. After
-- the first half call 3 is due; the second half moves the record on.
abbrev pub sums_of : Record → List Float → List Float → List Float
sums_of rec share xs = first_in (first_half (get frame_part share) rec.hearing.way xs 22).written

abbrev pub frame_on : Record → List Float → List Float → Lent → Effect Answer
frame_on rec share xs l =
    let f = first_half (get frame_part share) rec.hearing.way xs 22 in
    let s = second_half f.kept rec.hearing (l.logs (sums_of rec share xs)) l.model 480 in
    let after = numbered (advanced (holding 3 rec 0 0 0) s.answer) in
    record {
      answer = record { reply = s.answer; rec = after };
      kept = put frame_part share s.kept;
      written = s.written;
    }

-- As many frames as something is lent to. What is left of the samples waits.
unfoldable pub dictate : Record → List Float → List Float → List Lent → Dictated
dictate rec share xs [] = record { rec = holding 1 rec (length xs) 0 0; kept = waits share xs; told = []; out = [] }
dictate rec share xs (l ∷ more) =
    let o = frame_on rec share (take 480 xs) l in
    let d = dictate o.answer.rec o.kept (drop 480 xs) more in
    let here : Told = (sums_of rec share (take 480 xs), o.answer.reply, o.answer.rec) in
    record { rec = d.rec; kept = d.kept; told = here ∷ d.told; out = first_in o.written ++ d.out }

-- The dictation of the samples that wait in a share, followed by these.
abbrev pub dictated_on : Record → List Float → List Float → List Lent → Dictated
dictated_on rec share samples lent = dictate rec share (waiting_in rec.waiting share ++ samples) lent

-- The same on a side of a store.
abbrev pub dictated : ℕ → Record → List Float → List Float → List Lent → Dictated
dictated side rec store samples lent =
    let d = dictated_on rec (get (share_of side) store) samples lent in
    record { rec = d.rec; kept = put (share_of side) store d.kept; told = d.told; out = d.out }

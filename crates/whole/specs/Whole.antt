-- A frame, or a piece, in one call, with our own logarithms, so that nothing is left to the host. By
-- definition a frame is its two halves, and a take is the dictation of its samples, each on the side's own
-- share. All refusals are tested before anything changes.
use Rattle.std.specs.Prelude.{◌*◌, ◌∷◌, ◌++◌}
use Rattle.rules.specs.Common.{ℕ, cond, not, List, [], eqb, leb, length, replicate, Float}
use Rattle.rules.specs.Place.{get}
use Rattle.rules.specs.Refusals.{wrong}
use Rattle.frame.specs.Written.{from}
use Rattle.samples.specs.Samples.{good}
use Rattle.logs.specs.Log10.{logs_of}
use Rattle.model.specs.Model.{read_of}
use Rattle.frame.specs.Effect.{Effect, refusal}
use Rattle.frame.specs.Reply.{passed, ◌refusedIf◌, first_refusal}
use Rattle.frame.specs.Reply.{Reply}
use Rattle.frame.specs.Reply.{Done}
use Rattle.frame.specs.Frame.{counted, checked}
use Rattle.pieces.specs.Pieces.{waiting_in, completes, piece_fits}
use Rattle.desk.specs.Answer.{Answer}
use Rattle.desk.specs.declared.Record.{Record}
use Rattle.desk.specs.Gate.{PIECE, gate, share_of}
use Rattle.desk.specs.Laws.{placed}
use Rattle.desk.specs.Surface.{heard_of}
use Rattle.dictation.specs.Dictation.{Lent, Told, frame_on, dictated_on}

-- What is lent to a frame: our logarithms of its sums, and this model.
abbrev pub our_lent : List ℕ → Lent
our_lent model = record { logs = logs_of; model = model }

-- The reply of a table: the gate's number, 1 to 4, then the rows of the call's own table.
abbrev pub reply_of : ℕ → List Reply → Reply
reply_of number rows = first_refusal (number refusedIf not (eqb number 0) ∷ rows)

-- A refused call changes nothing. Otherwise o is done on the side's own share.
abbrev pub unless_refused : Reply → ℕ → Record → List Float → Effect Answer → Effect Answer
unless_refused reply side rec store o =
    cond (passed reply) (placed side store o) (refusal (record { reply = reply; rec = rec }) store)

-- ---- a frame

-- The rows of a frame: 5, then 7, 8 and 9.
abbrev pub frame_rows : Record → List Float → List ℕ → ℕ → List Reply
frame_rows rec samples model out =
    5 refusedIf wrong ((length samples, 480) ∷ (out, 480) ∷ []) ∷ checked (counted rec.hearing) (read_of model)
    ∷ 9 refusedIf not (good samples) ∷ []

unfoldable pub frame_reply : ℕ → ℕ → Record → ℕ → List Float → List ℕ → ℕ → Reply
frame_reply n side rec len samples model out = reply_of (gate n side rec len 1) (frame_rows rec samples model out)

unfoldable pub frame : ℕ → ℕ → Record → List Float → List Float → List ℕ → ℕ → Effect Answer
frame n side rec store samples model out =
    unless_refused (frame_reply n side rec (length store) samples model out) side rec store
    (frame_on rec (get (share_of side) store) samples (our_lent model))

-- ---- a piece

-- The rows of a take: the lengths of a piece, room for three answers of each frame that it completes, the
-- model, and the samples, those that wait included.
abbrev pub take_rows : Record → List Float → List Float → List ℕ → ℕ → ℕ → List Reply
take_rows rec share samples model out answers =
    5 refusedIf not (piece_fits rec.waiting (length samples) out 22)
    ∷ 5 refusedIf not (leb (3 * completes rec.waiting (length samples)) answers)
    ∷ checked (counted rec.hearing) (read_of model)
    ∷ 9 refusedIf not (good (waiting_in rec.waiting share ++ samples))
    ∷ []

unfoldable pub take_reply : ℕ → ℕ → Record → List Float → List Float → List ℕ → ℕ → ℕ → Reply
take_reply n side rec store samples model out answers =
    reply_of (gate n side rec (length store) PIECE) (take_rows rec (get (share_of side) store) samples model out
    answers)

-- Each frame that these samples complete is lent the same.
abbrev pub lent_to_each : Record → List Float → List ℕ → List Lent
lent_to_each rec samples model = replicate (completes rec.waiting (length samples)) (our_lent model)

-- Three answers of each frame: heard (1 or 0), voice, energy.
abbrev pub answers_of : List Told → List Float
answers_of [] = []
answers_of (f ∷ fs) = heard_of f.1 ++ answers_of fs

-- The dictation of the samples. Its output and its answers fill the front of their buffers, and the places
-- after them stay.
abbrev pub taken_on : Record → List Float → List Float → List ℕ → Effect Answer
taken_on rec share samples model =
    let d = dictated_on rec share samples (lent_to_each rec samples model) in
    record {
      answer = record { reply = Done; rec = d.rec };
      kept = d.kept;
      written = from 0 d.out ∷ from 0 (answers_of d.told) ∷ [];
    }

unfoldable pub take : ℕ → ℕ → Record → List Float → List Float → List ℕ → ℕ → ℕ → Effect Answer
take n side rec store samples model out answers =
    unless_refused (take_reply n side rec store samples model out answers) side rec store
    (taken_on rec (get (share_of side) store) samples model)

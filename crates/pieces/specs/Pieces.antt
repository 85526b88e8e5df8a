-- Dictation in pieces (request 12), on one share: a frame's part, followed by 479 places for samples that
-- wait. A piece continues with the waiting samples and its own. A resume finishes the frame under way and
-- continues with what is left of the piece.
use Rattle.std.specs.Prelude.{◌+◌, ◌-◌, ◌*◌, ◌/◌, ◌&&◌, ◌∷◌, ◌++◌}
use Rattle.rules.specs.Common.{ℕ, Bool, cond, not, List, [], eqb, leb, ltb, length}
use Rattle.rules.specs.Common.{get_or, take, drop, Float}
use Rattle.rules.specs.F32.{f32}
use Rattle.rules.specs.Place.{Place, get, put}
use Rattle.rules.specs.Tab.{tab}
use Rattle.frame.specs.Written.{Written, all, from, nothing, first_in}
use Rattle.samples.specs.Samples.{good}
use Rattle.model.specs.Model.{read_of}
use Rattle.frame.specs.Share.{SHARE, PART}
use Rattle.frame.specs.Effect.{Effect, unless}
use Rattle.frame.specs.Reply.{◌refusedIf◌, Reply, Done}
use Rattle.frame.specs.declared.Hearing.{Hearing}
use Rattle.frame.specs.declared.Way.{Way}
use Rattle.frame.specs.Frame.{counted, checked}
use Rattle.halves.specs.Halves.{first_half, second_half}

-- ---- the share

abbrev pub frame_part : Place
frame_part = record { at = 0; size = PART }

-- The first n of the places for samples that wait, and what they hold.
abbrev pub waiting_place : ℕ → Place
waiting_place n = record { at = PART; size = n }

abbrev pub waiting_in : ℕ → List Float → List Float
waiting_in n share = get (waiting_place n) share

-- The first n numbers of xs, filled up with zeros.
unfoldable pub padded_to : ℕ → List Float → List Float
padded_to n xs = tab n (λ i. get_or xs i (f32 0))

-- The share if exactly xs wait. The unused places are zero.
abbrev pub waits : List Float → List Float → List Float
waits share xs = put (waiting_place 479) share (padded_to 479 xs)

-- A call of a frame works on its part of the share.
abbrev pub in_part : List Float → Effect Reply → Effect Reply
in_part share f = record { answer = f.answer; kept = put frame_part share f.kept; written = f.written }

-- ---- what becomes of the rest of a piece, its samples that are in no frame yet; the buffers are its output and 22
--      sums

-- The rest waits, and the piece is finished.
abbrev pub at_end : Reply → List Float → List Float → Written → Effect Reply
at_end reply share rest out = record { answer = reply; kept = waits share rest; written = out ∷ nothing ∷ [] }

-- 480 samples begin a frame, and the piece pauses for its logarithms.
abbrev pub paused : Reply → List Float → Way → List Float → Written → Effect Reply
paused reply share way rest out =
    let f = first_half (get frame_part share) way (take 480 rest) 22 in
    record { answer = reply; kept = put frame_part share f.kept; written = out ∷ all (first_in f.written) ∷ [] }

unfoldable pub further : Reply → List Float → Way → List Float → Written → Effect Reply
further reply share way rest out =
    cond (ltb (length rest) 480) (at_end reply share rest out) (paused reply share way rest out)

-- ---- a piece

-- How many frames a piece of this size completes, if so many samples wait.
abbrev pub completes : ℕ → ℕ → ℕ
completes waiting size = (waiting + size) / 480

-- 1 to 4,096 samples, room for the frames that they complete, and room for 22 sums.
unfoldable pub piece_fits : ℕ → ℕ → ℕ → ℕ → Bool
piece_fits waiting size out sums =
    leb waiting 479 && (leb 1 size && (leb size 4096 && (leb (480 * completes waiting size) out && eqb sums 22)))

abbrev pub piece_rows : List Float → ℕ → List Float → ℕ → ℕ → List Reply
piece_rows share waiting samples out sums =
    5 refusedIf not (eqb (length share) SHARE)
    ∷ 5 refusedIf not (piece_fits waiting (length samples) out sums)
    ∷ 9 refusedIf not (good (waiting_in waiting share))
    ∷ 9 refusedIf not (good samples)
    ∷ []

abbrev pub begun : List Float → Way → ℕ → List Float → Effect Reply
begun share way waiting samples = further Done (waits share []) way (waiting_in waiting share ++ samples) nothing

unfoldable pub piece : List Float → Way → ℕ → List Float → ℕ → ℕ → Effect Reply
piece share way waiting samples out sums =
    unless (piece_rows share waiting samples out sums) share (begun share way waiting samples)

-- ---- a resume, of the frame under way

-- The number of the frame under way, counted from 1; and how many samples waited when the piece began. Both
-- follow from the progress: how many of the piece's samples are in frames so far.
abbrev pub frame_at : ℕ → ℕ
frame_at progress = (progress + 479) / 480

abbrev pub waited_of : ℕ → ℕ
waited_of progress = 480 * frame_at progress - progress

-- The piece has the noted size, there are 22 logarithms, room for all frames of the piece, and room for 22
-- sums.
unfoldable pub resume_fits : ℕ → ℕ → ℕ → ℕ → ℕ → ℕ → ℕ → Bool
resume_fits index piece progress size logs out sums =
    leb index 7 && (leb 1 progress && (leb progress piece && (leb piece 4096
    && (eqb size piece && (eqb logs 22 && (leb (480 * completes (waited_of progress) size) out && eqb sums 22))))))

-- After the lengths comes the model (7 and 8), and the samples last.
abbrev pub resume_rows : List Float → Hearing → ℕ → ℕ → List Float → List Float → List ℕ → ℕ → ℕ → List Reply
resume_rows share hearing piece progress samples logs model out sums =
    5 refusedIf not (eqb (length share) SHARE)
    ∷ 5 refusedIf not (resume_fits hearing.index piece progress (length samples) (length logs) out sums)
    ∷ checked (counted hearing) (read_of model)
    ∷ 9 refusedIf not (good samples)
    ∷ []

abbrev pub resumed : List Float → Hearing → ℕ → List Float → List Float → List ℕ → Effect Reply
resumed share hearing progress samples logs model =
    let s = second_half (get frame_part share) hearing logs model 480 in
    further s.answer (put frame_part share s.kept) hearing.way (drop progress samples)
    (from (480 * (frame_at progress - 1)) (first_in s.written))

unfoldable pub resume : List Float → Hearing → ℕ → ℕ → List Float → List Float → List ℕ → ℕ → ℕ → Effect Reply
resume share hearing piece progress samples logs model out sums =
    unless (resume_rows share hearing piece progress samples logs model out sums) share
    (resumed share hearing progress samples logs model)

-- Every call of the C surface that touches the store, by what its contract cites, and what is claimed of all of them.
-- The proofs are in proofs/.
use Rattle.std.specs.Prelude.{◌*◌, ◌≤◌, ◌<◌, ◌∷◌, ◌≡◌}
use Rattle.rules.specs.Common.{ℕ, true, false, cond, List, [], map, eqb, length, Float}
use Rattle.rules.specs.Refusals.{refusing}
use Rattle.frame.specs.Written.{first_in}
use Rattle.logs.specs.Log10.{logs_of}
use Rattle.frame.specs.Reply.{Refused, Misread, passed}
use Rattle.frame.specs.declared.Way.{Way}
use Rattle.frame.specs.Share.{SHARE}
use Rattle.desk.specs.declared.Record.{Record}
use Rattle.desk.specs.Gate.{BENCHES, PIECE, gate}
use Rattle.desk.specs.Desk.{Ask, opening, first_half, second_half, piece, resume}
use Rattle.desk.specs.Surface.{reply_number, handed_back, hosted}
use Rattle.dictation.specs.Dictation.{Told, dictated}
use Rattle.whole.specs.Surface.{hosted_frame, hosted_take}
use Rattle.whole.specs.Laws.{frame_begins}
use Rattle.whole.specs.Whole.{frame_reply, take_reply, lent_to_each}
use Rattle.feed.specs.Feed.{Block, ROOM, block_size, samples_of, feed_rows}
use Rattle.feed.specs.Surface.{hosted_feed}
use Rattle.isolation.specs.Run.{Kind, On, on, State, received, Made, Expands}
use Rattle.isolation.specs.Isolation.{own, alone, Isolated, Undisturbed}
use Rattle.isolation.specs.Memory.{Counts}

-- open, calls 1 to 4 and call 2's sister, the halves, a piece and a resume; a frame; a take; and a feed. Of an answer
-- buffer its length is an argument
pub data Call : Type 0 where
  ask : Ask → Call
  frame : (samples : List Float) (model : List ℕ) (out : ℕ) → Call
  take : (samples : List Float) (model : List ℕ) (out answers : ℕ) → Call
  feed : (block : Block) (model : List ℕ) (cleaned records answers : ℕ) → Call

abbrev pub surface : Kind Call
surface n side ns store (ask a) = hosted n side ns store a
surface n side ns store (frame x m o) = hosted_frame n side ns store x m o
surface n side ns store (take x m o a) = hosted_take n side ns store x m o a
surface n side ns store (feed b m c e a) = hosted_feed n side ns store b m c e a

-- ---- apart: whatever is called on whatever benches. The desk's calls by themselves are such, and so apart too

abbrev pub OurSurface : Type 0
OurSurface = Isolated surface BENCHES × Undisturbed surface BENCHES

-- an opening that is done starts anew, whatever the records and the store were, the side's own among them
abbrev pub Anew : ℕ → Type 0
Anew n =
    (s : ℕ) → s < n → (st : State) → length st.store ≡ n * SHARE
    → (way : Way) (model : List ℕ)
    → passed (hosted n s (st.numbers s) st.store (opening way model)).answer.reply ≡ true
    → (calls : List (On Call))
    → received surface n s st (on s (ask (opening way model)) ∷ calls)
    ≡ alone surface s (ask (opening way model) ∷ own s calls)

-- ---- mixed sequences: a frame is its two halves, a take its piece and a resume with our logarithms for each frame
--      told, and a feed its take; refused,
-- none is any

abbrev pub resume_for : List Float → List ℕ → ℕ → Told → Ask
resume_for x m o told = resume x (logs_of told.0) m o 22

abbrev pub take_made : ℕ → ℕ → Record → List Float → List Float → List ℕ → ℕ → ℕ → List Ask
take_made n side rec store x m o a =
    cond (passed (take_reply n side rec store x m o a))
    (piece x o 22 ∷ map (resume_for x m o) (dictated side rec store x (lent_to_each rec x m)).told) []

abbrev pub made_of : Made Call
made_of n side rec store (ask a) = a ∷ []
made_of n side rec store (frame x m o) =
    cond (passed (frame_reply n side rec (length store) x m o))
    (first_half x 22 ∷ second_half (logs_of (first_in (frame_begins n side rec store x).written)) m o ∷ []) []
made_of n side rec store (take x m o a) = take_made n side rec store x m o a
made_of n side rec store (feed b m c e a) =
    refusing (feed_rows (gate n side rec (length store) PIECE) rec.waiting (block_size b) c e a) (λ _. [])
    (take_made n side rec store (samples_of b) m ROOM a)

-- so over any run of these calls frames are numbered, and what is remembered is made of heard frames, is never NaN, and
-- fades no faster
abbrev pub OurCalls : Type 0
OurCalls = Expands surface made_of BENCHES × Counts surface made_of BENCHES

-- ---- of every call

-- a refusal leaves the record and the store as they were, and writes to no buffer
abbrev pub RefusedLeaves : Type 0
RefusedLeaves =
    (n side : ℕ) (ns : List ℕ) (store : List Float) (c : Call)
    → let o = surface n side ns store c in
    passed o.answer.reply ≡ false → (handed_back side o.answer ns ≡ ns) × (o.kept ≡ store) × (o.written ≡ [])

-- 0 is done: it is returned exactly where the reply passed. A refusal is 1 to 6, 8 or 9; 7 comes with the model's own,
-- 11 to 22, and a layer, 0 to 6
abbrev pub ZeroIsDone : Type 0
ZeroIsDone =
    (n side : ℕ) (ns : List ℕ) (store : List Float) (c : Call)
    → let reply = (surface n side ns store c).answer.reply in
    (passed reply ≡ eqb (reply_number reply) 0)
    × ((k : ℕ) → reply ≡ Refused k → (1 ≤ k) × (k ≤ 9) × (k ≡ 7 → ⊥))
    × ((k l : ℕ) → reply ≡ Misread k l → (11 ≤ k) × (k ≤ 22) × (l ≤ 6))

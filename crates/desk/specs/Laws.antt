-- Claims about the desk's calls, for any number of benches. Proofs: proofs/Kept, Ranged, Noted, Replies,
-- Buffers, Results, Halved, Apart, Zeros.
use Rattle.rules.specs.Common.{ℕ, true, false, cond, List, length, drop, Float}
use Rattle.std.specs.Prelude.{◌⊎◌, ◌+◌, ◌*◌, ◌≤◌, ◌<◌, ◌≡◌, Result}
use Rattle.rules.specs.Place.{get, put}
use Rattle.frame.specs.Written.{Written, first_in}
use Rattle.transforms.specs.Transform.{forward_of}
use Rattle.model.specs.Model.{read_of}
use Rattle.model.specs.declared.Model.{Model}
use Rattle.model.specs.Reading.{Good}
use Rattle.frame.specs.Share.{SHARE}
use Rattle.frame.specs.Effect.{Effect}
use Rattle.frame.specs.Reply.{passed}
use Rattle.frame.specs.declared.Hearing.{Hearing}
use Rattle.frame.specs.Reply.{Reply}
use Rattle.frame.specs.Reply.{Done, Silent, Heard, Numbered, Refused, Misread}
use Rattle.frame.specs.Answer.{as_reply}
use Rattle.frame.specs.declared.answer.Told.{Told}
use Rattle.frame.specs.declared.answer.Cause.{Cause}
use Rattle.frame.specs.declared.Way.{Way}
use Rattle.frame.specs.declared.Way.TheVariants.{Own}
use Rattle.halves.specs.Halves.{looked_back}
use Rattle.halves.specs.Ways.{forward_by, inverse_by}
use Rattle.pieces.specs.Pieces.{frame_part, waiting_in, padded_to}
use Rattle.desk.specs.Gate.{share_of, in_range}
use Rattle.desk.specs.Desk.{Ask, opening, call1, call2, call2_own, call3, call4, first_half, second_half, piece}
use Rattle.desk.specs.Desk.{resume, call_of, closed, desk}
use Rattle.desk.specs.Answer.{Answer, answer_of, answer_by, reply_by}
use Rattle.desk.specs.Private.{told_second, after_second}
use Rattle.desk.specs.declared.Record.{Record}

-- ---- one call

-- A refusal changes neither the record nor the store.
abbrev pub RefusedKeeps : Type 0
RefusedKeeps =
    (n side : ℕ) (rec : Record) (store : List Float) (ask : Ask)
    → let o = desk n side rec store ask in
    passed o.answer.reply ≡ false → (o.answer.rec ≡ rec) × (o.kept ≡ store)

-- If a call is done, the record that it was given and the one that it returns are in range. So a host that
-- hands back what it received is never refused for it.
abbrev pub RangeKept : Type 0
RangeKept =
    (n side : ℕ) (rec : Record) (store : List Float) (ask : Ask)
    → let o = desk n side rec store ask in
    passed o.answer.reply ≡ true → (in_range rec ≡ true) × (in_range o.answer.rec ≡ true)

-- What an opening noted stays until the next opening: of the hearing, any other call changes the index alone.
abbrev pub noted : Hearing → ℕ × ℕ × ℕ × Way
noted hearing = (hearing.vad, hearing.noise, hearing.denoise, hearing.way)

abbrev pub NotedStays : Type 0
NotedStays =
    (n side : ℕ) (rec : Record) (store : List Float) (ask : Ask) → (call_of ask ≡ 0 → ⊥)
    → noted (desk n side rec store ask).answer.rec.hearing ≡ noted rec.hearing

-- A refusal 7 has a number of at most 22 and a layer of at most 6.
abbrev pub SmallSeven : Reply → Type 0
SmallSeven (Misread n l) = (n ≤ 22) × (l ≤ 6)
SmallSeven Done = Unit
SmallSeven Silent = Unit
SmallSeven (Heard v e) = Unit
SmallSeven (Numbered f h) = Unit
SmallSeven (Refused n) = Unit

abbrev pub SmallReplies : Type 0
SmallReplies = (n side : ℕ) (rec : Record) (store : List Float) (ask : Ask)
    → SmallSeven (desk n side rec store ask).answer.reply

-- The number of answer buffers that a call is lent. A call that is done writes to each, a refused one to
-- none.
abbrev pub buffers_of : Ask → ℕ
buffers_of (opening w m) = 0
buffers_of (call1 x w) = 1
buffers_of (call2 x l w s) = 2
buffers_of (call2_own x w s) = 2
buffers_of (call3 x l m o) = 1
buffers_of (call4 x o) = 1
buffers_of (first_half x s) = 1
buffers_of (second_half l m o) = 1
buffers_of (piece x o s) = 2
buffers_of (resume x l m o s) = 2

abbrev pub Buffers : Type 0
Buffers =
    (n side : ℕ) (rec : Record) (store : List Float) (ask : Ask)
    → let o = desk n side rec store ask in
    length o.written ≡ cond (passed o.answer.reply) (buffers_of ask) 0

-- A closed record is in range. With any record in range, a side that exists, a store of the right length and
-- a model that reads, an opening is done.
abbrev pub Opens : Type 0
Opens =
    (in_range closed ≡ true)
    × ((n side : ℕ) (rec : Record) (store : List Float) (way : Way) (model : List ℕ) (m : Model)
    → side < n → length store ≡ n * SHARE → in_range rec ≡ true → read_of model ≡ Good m
    → (desk n side rec store (opening way model)).answer.reply ≡ Done)

-- What the second half gives is `told_second` of the reply, whatever the reason for a refusal is and however it is read
-- as a reply that does not pass. So also where it is a number, read by `Refused`.
abbrev pub SecondTold : Type 1
SecondTold =
    (E : Type 0) (reads : E → Reply) → ((why : E) → passed (reads why) ≡ false)
    → (rec : Record) (outcome : Result Told E)
    → answer_by reads rec (after_second rec outcome) ≡ told_second rec (reply_by reads outcome)

-- And where it is one of the desk's own.
abbrev pub SecondAnswered : Type 0
SecondAnswered =
    (rec : Record) (outcome : Result Told Cause)
    → answer_of rec (after_second rec outcome) ≡ told_second rec (as_reply outcome)

-- ---- request 08: accepted, a half is its two calls in turn, the second handed the record and the store as the first
--      left them

-- A half is two calls of the desk: both are done, the half leaves the record and the store of the second, and
-- this is its reply and what it writes.
pub record InTurn (one two half : Effect Answer) (reply : Reply) (written : List Written) : Type 0 where
  pub first : passed one.answer.reply ≡ true
  pub last : passed two.answer.reply ≡ true
  pub replies : half.answer.reply ≡ reply
  pub records : half.answer.rec ≡ two.answer.rec
  pub stores : half.kept ≡ two.kept
  pub writes : half.written ≡ written

-- In way 0 the first half is call 1 and then call 2's sister, given the plain sums of the window.
abbrev pub FirstInTurn : Type 0
FirstInTurn =
    (n side : ℕ) (rec : Record) (store samples : List Float) (sums : ℕ)
    → let one = desk n side rec store (call1 samples 960) in
    let two = desk n side one.answer.rec one.kept (call2_own (forward_of (first_in one.written)) 960 sums) in
    let half = desk n side rec store (first_half samples sums) in
    rec.hearing.way ≡ Own → passed half.answer.reply ≡ true
    → InTurn one two half two.answer.reply (drop 1 two.written)

-- In either way the second half is call 3 and call 4; and the record has call 4's two numbers.
abbrev pub SecondInTurn : Type 0
SecondInTurn =
    (n side : ℕ) (rec : Record) (store logs : List Float) (model : List ℕ) (out : ℕ)
    → let way = rec.hearing.way in
    let spectrum = forward_by way (looked_back (get frame_part (get (share_of side) store))) in
    let three = desk n side rec store (call3 spectrum logs model 961) in
    let four = desk n side three.answer.rec three.kept (call4 (inverse_by way (first_in three.written)) out) in
    let half = desk n side rec store (second_half logs model out) in
    passed half.answer.reply ≡ true
    → InTurn three four half three.answer.reply four.written
    × (four.answer.reply ≡ Numbered half.answer.rec.frame half.answer.rec.heard)

-- ---- what the law of isolation rests on

-- The shares of two sides have no place in common.
abbrev pub SharesApart : Type 0
SharesApart =
    (a b : ℕ) → (a ≡ b → ⊥) → let p = share_of a in let q = share_of b in
    (p.at + p.size ≤ q.at) ⊎ (q.at + q.size ≤ p.at)

-- An outcome on the share of a side alone, put back into the store.
abbrev pub placed : ℕ → List Float → Effect Answer → Effect Answer
placed side store o = record { answer = o.answer; kept = put (share_of side) store o.kept; written = o.written }

-- A call on a side is what a desk of one bench makes of it, with the side's share as its store.
abbrev pub ItsOwn : Type 0
ItsOwn =
    (n side : ℕ) (rec : Record) (store : List Float) (ask : Ask) → length store ≡ n * SHARE → side < n
    → desk n side rec store ask ≡ placed side store (desk 1 0 rec (get (share_of side) store) ask)

-- The store keeps its length, and the share of no other side changes.
abbrev pub SameLength : Type 0
SameLength =
    (n side : ℕ) (rec : Record) (store : List Float) (ask : Ask) → length store ≡ n * SHARE
    → length (desk n side rec store ask).kept ≡ length store

abbrev pub OtherShare : Type 0
OtherShare =
    (n side : ℕ) (rec : Record) (store : List Float) (ask : Ask) → length store ≡ n * SHARE → (s : ℕ) → (side ≡ s → ⊥)
    → get (share_of s) (desk n side rec store ask).kept ≡ get (share_of s) store

-- Two outcomes with the same answer that leave the same store, or a closed record.
pub record AnsweredAlike (o u : Effect Answer) : Type 0 where
  pub answer : o.answer ≡ u.answer
  pub written : o.written ≡ u.written
  pub store : (o.kept ≡ u.kept) ⊎ (o.answer.rec.due ≡ 0)

-- Nothing ever reports what the share of a closed side held.
abbrev pub ClosedAlike : Type 0
ClosedAlike =
    (rec : Record) (xs ys : List Float) → length xs ≡ SHARE → length ys ≡ SHARE → (ask : Ask) → rec.due ≡ 0
    → AnsweredAlike (desk 1 0 rec xs ask) (desk 1 0 rec ys ask)

-- An opening that is done does not depend on the record and the share that it found.
abbrev pub OpensAnew : Type 0
OpensAnew =
    (rec : Record) (xs ys : List Float) → length xs ≡ SHARE → length ys ≡ SHARE → (way : Way) (model : List ℕ)
    → let o = desk 1 0 rec xs (opening way model) in
    passed o.answer.reply ≡ true → o ≡ desk 1 0 closed ys (opening way model)

-- ---- request 12: the unused places are zero

-- The places for samples that wait hold as many as the record counts, followed by zeros.
abbrev pub ZerosBehind : ℕ → Record → List Float → Type 0
ZerosBehind side rec store =
    let share = get (share_of side) store in waiting_in 479 share ≡ padded_to 479 (waiting_in rec.waiting share)

-- A record and a store that are reached by an opening of the side and any calls after it, its own and other
-- sides'.
pub data Reached (n side : ℕ) : Record → List Float → Type 0 where
  opened : (rec : Record) (store : List Float) (way : Way) (model : List ℕ)
      → passed (desk n side rec store (opening way model)).answer.reply ≡ true
      → Reached n side (desk n side rec store (opening way model)).answer.rec
      (desk n side rec store (opening way model)).kept
  asked : {rec : Record} {store : List Float} → Reached n side rec store
      → (ask : Ask) → Reached n side (desk n side rec store ask).answer.rec (desk n side rec store ask).kept
  beside : {rec : Record} {store : List Float} → Reached n side rec store
      → (other : ℕ) → (other ≡ side → ⊥) → (its : Record) (ask : Ask)
      → Reached n side rec (desk n other its store ask).kept

abbrev pub UnusedZero : Type 0
UnusedZero = (n side : ℕ) (rec : Record) (store : List Float) → Reached n side rec store → ZerosBehind side rec store

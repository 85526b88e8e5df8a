-- When a call is accepted: what is claimed. The proofs are in proofs/Acceptance.antt.
--
-- A call is accepted exactly when the desk is in order and the call's record, share and arguments are as it asks.
-- Nothing else can turn it away: not another bench, not how long it dictates, not what the share holds (but for the
-- samples that wait).
use Rattle.std.specs.Prelude.{◌*◌, ◌&&◌, ◌++◌, ◌≡◌}
use Rattle.rules.specs.Common.{ℕ, Bool, true, false, not, List, eqb, leb, ltb, length, Float}
use Rattle.rules.specs.Place.{get}
use Rattle.samples.specs.Samples.{good}
use Rattle.model.specs.Model.{read_of}
use Rattle.model.specs.Reading.{Reading, Good, Refused as Unread}
use Rattle.frame.specs.Frame.{counted, checked}
use Rattle.frame.specs.Reply.{passed}
use Rattle.frame.specs.Share.{SHARE}
use Rattle.pieces.specs.Pieces.{waiting_in, completes, piece_fits, resume_fits}
use Rattle.desk.specs.declared.Record.{Record}
use Rattle.desk.specs.Gate.{PIECE, RESUME, in_range, is_due, share_of}
use Rattle.desk.specs.Desk.{Ask, opening, call1, call2, call2_own, call3, call4, first_half, second_half, piece, resume}
use Rattle.desk.specs.Surface.{record_in}
use Rattle.feed.specs.Feed.{Block, ROOM, block_size, samples_of}
use Rattle.surface.specs.Surface.{Call, ask, frame, take, feed, surface}

-- there is such a bench, the store has the published length, and the record is in range
abbrev pub in_order : ℕ → ℕ → Record → ℕ → Bool
in_order n side rec len = ltb side n && (eqb len (n * SHARE) && in_range rec)

-- the bench is open, and this call is due
abbrev pub may_ask : Record → ℕ → Bool
may_ask rec call = not (eqb rec.due 0) && is_due rec call

-- the model reads; and it has the counts that the opening noted
abbrev pub reads : Reading → Bool
reads (Good m) = true
reads (Unread n l) = false

abbrev pub suits : Record → List ℕ → Bool
suits rec model = passed (checked (counted rec.hearing) (read_of model))

-- what each call of the desk asks. Of an opening nothing has to be due
abbrev pub asks : Record → List Float → Ask → Bool
asks rec share (opening w m) = reads (read_of m)
asks rec share (call1 x w) = may_ask rec 1 && (eqb (length x) 480 && (eqb w 960 && good x))
asks rec share (call2 x l w s) = may_ask rec 2 && (eqb (length x) 961 && (eqb w 960 && (eqb s 22 && not (ltb 768 l))))
asks rec share (call2_own x w s) = may_ask rec 2 && (eqb (length x) 961 && (eqb w 960 && eqb s 22))
asks rec share (call3 x l m o) =
    may_ask rec 3 && (eqb (length x) 961 && (eqb (length l) 22 && (eqb o 961 && suits rec m)))
asks rec share (call4 x o) = may_ask rec 4 && (eqb (length x) 960 && eqb o 480)
asks rec share (first_half x s) = may_ask rec 1 && (eqb (length x) 480 && (eqb s 22 && good x))
asks rec share (second_half l m o) = may_ask rec 3 && (eqb (length l) 22 && (eqb o 480 && suits rec m))
asks rec share (piece x o s) =
    may_ask rec PIECE && (piece_fits rec.waiting (length x) o s && (good (waiting_in rec.waiting share) && good x))
asks rec share (resume x l m o s) =
    may_ask rec RESUME
    && (resume_fits rec.hearing.index rec.piece rec.progress (length x) (length l) o s
    && (suits rec m && good x))

-- a take asks what its piece asks, room for three answers of each frame, and, whether it completes a frame or not, the
-- model that a resume asks
abbrev pub take_asks : Record → List Float → List Float → List ℕ → ℕ → ℕ → Bool
take_asks rec share x m o a =
    may_ask rec PIECE
    && (piece_fits rec.waiting (length x) o 22
    && (leb (3 * completes rec.waiting (length x)) a && (suits rec m && good (waiting_in rec.waiting share ++ x))))

-- a frame asks what its two halves ask, before either. A feed asks for room for its bytes and records, and what the
-- take of its channel asks: a block of a wrong shape has no samples
abbrev pub wants : Record → List Float → Call → Bool
wants rec share (ask a) = asks rec share a
wants rec share (frame x m o) = may_ask rec 1 && (eqb (length x) 480 && (eqb o 480 && (suits rec m && good x)))
wants rec share (take x m o a) = take_asks rec share x m o a
wants rec share (feed b m c e a) =
    leb (960 * completes rec.waiting (block_size b)) c
    && (leb (8 * completes rec.waiting (block_size b)) e && take_asks rec share (samples_of b) m ROOM a)

abbrev pub Acceptance : Type 0
Acceptance =
    (n side : ℕ) (ns : List ℕ) (store : List Float) (c : Call)
    → let rec = record_in side ns in
    passed (surface n side ns store c).answer.reply
    ≡ (in_order n side rec (length store) && wants rec (get (share_of side) store) c)

-- ---- a take beside its piece, and a feed beside its take

-- a take is accepted exactly when its piece is, with room for 22 sums, and it has room for its answers and a model that
-- suits: then no resume is refused (`ComesToItsEnd`, dictation/specs/Resuming)
abbrev pub TakeAsItsPiece : Type 0
TakeAsItsPiece =
    (n side : ℕ) (ns : List ℕ) (store x : List Float) (m : List ℕ) (o a : ℕ)
    → let rec = record_in side ns in
    passed (surface n side ns store (take x m o a)).answer.reply
    ≡ (passed (surface n side ns store (ask (piece x o 22))).answer.reply
    && (leb (3 * completes rec.waiting (length x)) a && suits rec m))

-- a feed is accepted exactly when the take of its channel is, and it has room for its bytes and its records
abbrev pub FeedAsItsTake : Type 0
FeedAsItsTake =
    (n side : ℕ) (ns : List ℕ) (store : List Float) (b : Block) (m : List ℕ) (c e a : ℕ)
    → let frames = completes (record_in side ns).waiting (block_size b) in
    passed (surface n side ns store (feed b m c e a)).answer.reply
    ≡ (passed (surface n side ns store (take (samples_of b) m ROOM a)).answer.reply
    && (leb (960 * frames) c && leb (8 * frames) e))

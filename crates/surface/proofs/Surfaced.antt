-- Every call of the C surface is the gate and a function of the bench's own record and share.
--     tabled                               a call after a table of its own
--     asking, framing, taking, feeding     each of them as such, and that it is (ask-does, frame-does, take-does,
--                                          feed-does)
--     owned                                any of them
--     our-surface, starts-anew             what specs/Surface.antt claims
-- Assumes nothing.
use Rattle.std.specs.Prelude.{◌∷◌, ◌++◌, ◌≡◌}
use Rattle.rules.proofs.Common.{ℕ, Bool, true, false, cond, not, List, [], refl, sym, ap, ◌∙◌, eqb}
use Rattle.rules.proofs.Common.{length, Float}
use native.Mathlib.Omega.{arith}
use mathlib.Core.Logic.{inl, inr}
use borrow.Author.Tests.{eq-eqb, eqb-true}
use Rattle.rules.specs.F32.{zeros}
use Rattle.rules.specs.Place.{get, put}
use Rattle.rules.specs.Refusals.{Row, refusing}
use Rattle.rules.proofs.Places.{length_get, put_get}
use Rattle.rules.proofs.Refusals.{along, by_rows}
use Rattle.model.specs.Model.{read_of}
use Rattle.model.specs.Reading.{Reading, Good, Refused as Unread}
use Rattle.frame.specs.Effect.{Effect, refusal}
use Rattle.frame.specs.Reply.{Reply, Refused, passed, ◌refusedIf◌, first_refusal}
use Rattle.frame.specs.declared.Way.{Way}
use Rattle.frame.specs.Share.{SHARE}
use Rattle.pieces.specs.Pieces.{waiting_in}
use Rattle.pieces.proofs.Halved.{first_length, second_length}
use Rattle.pieces.proofs.Shares.{part_length, frame_length}
use Rattle.desk.specs.Answer.{Answer}
use Rattle.desk.specs.declared.Record.{Record}
use Rattle.desk.specs.Gate.{BENCHES, PIECE, side_of, gate, share_of}
use Rattle.desk.specs.Desk.{Ask, opening, call1, call2, call2_own, call3, call4, first_half, second_half, piece, resume}
use Rattle.desk.specs.Desk.{call_of, closed, answered, opened, on_share, desk}
use Rattle.desk.specs.Surface.{numbers_of, record_in, besides, telling, hosted}
use Rattle.desk.specs.Laws.{placed, AnsweredAlike}
use Rattle.desk.proofs.Answered.{refused, given_of}
use Rattle.desk.proofs.Apart.{its_own, anew}
use Rattle.desk.proofs.Kept.{admitted_kept}
use Rattle.dictation.specs.Dictation.{frame_on}
use Rattle.dictation.proofs.Joins.{share_size}
use Rattle.whole.specs.Whole.{our_lent, reply_of, unless_refused, frame_rows, frame_reply, take_rows, take_reply}
use Rattle.whole.specs.Whole.{lent_to_each}
use Rattle.whole.specs.Whole.{taken_on}
use Rattle.whole.specs.Whole as whole
use Rattle.whole.specs.Surface.{hosted_frame, hosted_take}
use Rattle.feed.specs.Feed.{Block, ROOM, block_size, samples_of, feed_rows, fed_by}
use Rattle.feed.specs.Feed as feeds
use Rattle.feed.specs.Surface.{hosted_feed}
use Rattle.isolation.specs.Local.{Local, performed}
use Rattle.isolation.specs.Isolation.{own, Owned}
use Rattle.isolation.specs.Run.{on}
use Rattle.isolation.proofs.Performed.{lonely, one_bench}
use Rattle.isolation.proofs.Runs.{reads}
use Rattle.isolation.proofs.Isolated.{alone_does, lone, next, in_any_run, alone_lone, isolated, undisturbed}
use Rattle.surface.specs.Surface.{Call, ask, frame, take, feed, surface, OurSurface, Anew}
use Rattle.surface.proofs.Refusing.{nor_besides}

-- refused, with this reply
abbrev unchanged : Reply → Record → List Float → Effect Answer
unchanged reply b store = refusal (record { reply = reply; rec = b }) store

-- ---- a call of the desk

module _ (a : Ask) where
  abbrev ask_work : Record → List Float → Effect Answer
  ask_work b share =
      let o = given_of b a (on_share b share a) in
      record { answer = o.answer; kept = o.kept; written = o.written ++ besides a o.answer.reply }

opening_blind : (w : Way) (m : List ℕ) (b : Record) (xs ys : List Float) → b.due ≡ 0
    → AnsweredAlike (ask_work (opening w m) b xs) (ask_work (opening w m) b ys)
opening_blind w m b xs ys d = go (read_of m)
  where
    given : List Float → Reading → Effect Answer
    given share read =
        let f = opened share read in
        record { answer = answered b (opening w m) f.answer; kept = f.kept; written = f.written ++ [] }

    go : (read : Reading) → AnsweredAlike (given xs read) (given ys read)
    go (Good m) = record { answer = refl; written = refl; store = inl refl }
    go (Unread n l) = record { answer = refl; written = refl; store = inr d }

ask_blind : (a : Ask) → call_of a ≡ 0 → (b : Record) (xs ys : List Float) → b.due ≡ 0
    → AnsweredAlike (ask_work a b xs) (ask_work a b ys)
ask_blind (opening w m) e b xs ys d = opening_blind w m b xs ys d
ask_blind (call1 x w) e b xs ys d = absurd (omega arith)
ask_blind (call2 x g w s) e b xs ys d = absurd (omega arith)
ask_blind (call2_own x w s) e b xs ys d = absurd (omega arith)
ask_blind (call3 x g m o) e b xs ys d = absurd (omega arith)
ask_blind (call4 x o) e b xs ys d = absurd (omega arith)
ask_blind (first_half x s) e b xs ys d = absurd (omega arith)
ask_blind (second_half g m o) e b xs ys d = absurd (omega arith)
ask_blind (piece x o s) e b xs ys d = absurd (omega arith)
ask_blind (resume x g m o s) e b xs ys d = absurd (omega arith)

unfoldable asking : Ask → Local
asking a =
    record {
      call = call_of a;
      work = λ _. ask_work a;
      sized = λ _ b share k. (admitted_kept b share a 0).size k;
      blind = λ e _. ask_blind a e;
    }

-- what the desk gives, with what a host is told besides
abbrev with_besides : Ask → Effect Answer → Effect Answer
with_besides a o = record { answer = o.answer; kept = o.kept; written = o.written ++ besides a o.answer.reply }

desk_does : (a : Ask) (n side : ℕ) (b : Record) (store : List Float)
    → with_besides a (desk n side b store a) ≡ performed n side b store (asking a)
unfolding performed asking desk
desk_does a n side b store = go (eqb number 0)
  where
    share : List Float
    share = get (share_of side) store

    number : ℕ
    number = gate n side b (length store) (call_of a)

    told : Effect Reply → Effect Answer
    told f =
        record {
          answer = answered b a f.answer;
          kept = put (share_of side) store f.kept;
          written = f.written ++ besides a (answered b a f.answer).reply;
        }

    go : (t : Bool) → told (cond t (on_share b share a) (refusal (Refused number) share))
        ≡ cond t (placed side store (ask_work a b share)) (unchanged (Refused number) b store)
    go true = refl
    go false = rw (refused b a number, put_get (share_of side) store, nor_besides a (Refused number) refl)

ask_does : (a : Ask) (n side : ℕ) (ns : List ℕ) (store : List Float)
    → hosted n side ns store a ≡ performed n side (record_in side ns) store (asking a)
unfolding hosted
ask_does a n side ns store = desk_does a n side (record_in side ns) store

-- ---- a call after a table of its own: the gate's row, and these on the record and the share

module _ (call : ℕ) (some : call ≡ 0 → ⊥) (rows : Record → List Float → List Reply)
    (work : Record → List Float → Effect Answer)
    (size : (b : Record) (share : List Float) → length share ≡ SHARE → length (work b share).kept ≡ SHARE) where
  abbrev table_work : Record → List Float → Effect Answer
  table_work b share = let r = first_refusal (rows b share) in cond (passed r) (work b share) (unchanged r b share)

  table_sized : (b : Record) (share : List Float) → length share ≡ SHARE → length (table_work b share).kept ≡ SHARE
  table_sized b share k = go (passed r)
    where
      r : Reply
      r = first_refusal (rows b share)

      go : (t : Bool) → length (cond t (work b share) (unchanged r b share)).kept ≡ SHARE
      go true = size b share k
      go false = k

  unfoldable tabled : Local
  tabled = record { call = call; work = λ _. table_work; sized = λ _. table_sized; blind = λ z. absurd (some z) }

  module _ (n side : ℕ) (b : Record) (store : List Float) where
    abbrev number : ℕ
    number = gate n side b (length store) call

    table_does : unless_refused
        (reply_of (gate n side b (length store) call) (rows b (get (share_of side) store))) side b store
        (work b (get (share_of side) store))
        ≡ performed n side b store tabled
    unfolding performed tabled
    table_does = go (eqb number 0) (passed r) refl
      where
        share : List Float
        share = get (share_of side) store

        r : Reply
        r = first_refusal (rows b share)

        go : (t u : Bool) → passed r ≡ u
            → let row = number refusedIf not t in
            unless_refused (cond (passed row) r row) side b store (work b share)
            ≡ cond t (placed side store (cond u (work b share) (unchanged r b share)))
            (unchanged (Refused number) b store)
        go true true e = rw e
        go true false e = rw (e, put_get (share_of side) store)
        go false u e = refl

    -- let through
    table_inside : gate n side b (length store) call ≡ 0
        → performed n side b store tabled ≡ placed side store (table_work b (get (share_of side) store))
    unfolding performed tabled
    table_inside z = rw (eq-eqb number 0 z)

-- ---- a frame

module _ (samples : List Float) (model : List ℕ) (out : ℕ) where
  abbrev frame_work : Record → List Float → Effect Answer
  frame_work b share = telling (frame_on b share samples (our_lent model))

  frame_size : (b : Record) (share : List Float) → length share ≡ SHARE → length (frame_work b share).kept ≡ SHARE
  frame_size b share k =
      frame_length share k _ (second_length _ b.hearing _ model 480
      (first_length _ b.hearing.way samples 22 (part_length share k)))

  framing : Local
  framing = tabled 1 (λ z. omega arith) (λ b _. frame_rows b samples model out) frame_work frame_size

  -- of a refusal nothing is told besides
  telling_in : (reply : Reply) (side : ℕ) (b : Record) (store : List Float) (o : Effect Answer)
      → telling (unless_refused reply side b store o) ≡ unless_refused reply side b store (telling o)
  telling_in reply side b store o = go (passed reply) refl
    where
      go : (t : Bool) → passed reply ≡ t
          → telling (cond t (placed side store o) (unchanged reply b store))
          ≡ cond t (placed side store (telling o)) (unchanged reply b store)
      go true e = refl
      go false e = rw e

  frame_does : (n side : ℕ) (b : Record) (store : List Float)
      → telling (whole.frame n side b store samples model out) ≡ performed n side b store framing
  unfolding whole.frame frame_reply framing tabled
  frame_does n side b store =
      telling_in (reply_of (gate n side b (length store) 1) (frame_rows b samples model out)) side b store
      (frame_on b (get (share_of side) store) samples (our_lent model))
      ∙ table_does 1 (λ z. omega arith) (λ b _. frame_rows b samples model out) frame_work frame_size n side b store

-- ---- a take: the dictation of its samples

module _ (samples : List Float) (model : List ℕ) (out answers : ℕ) where
  abbrev said_size : (b : Record) (share : List Float) → length share ≡ SHARE
      → length (taken_on b share samples model).kept ≡ SHARE
  said_size b share k = share_size b share (waiting_in b.waiting share ++ samples) (lent_to_each b samples model) k

  abbrev take_work : Record → List Float → Effect Answer
  take_work =
      table_work PIECE (λ z. omega arith) (λ b share. take_rows b share samples model out answers)
      (λ b share. taken_on b share samples model) said_size

  take_sized : (b : Record) (share : List Float) → length share ≡ SHARE → length (take_work b share).kept ≡ SHARE
  take_sized =
      table_sized PIECE (λ z. omega arith) (λ b share. take_rows b share samples model out answers)
      (λ b share. taken_on b share samples model) said_size

  taking : Local
  taking =
      tabled PIECE (λ z. omega arith) (λ b share. take_rows b share samples model out answers)
      (λ b share. taken_on b share samples model) said_size

  module _ (n side : ℕ) (b : Record) (store : List Float) where
    take_does : whole.take n side b store samples model out answers ≡ performed n side b store taking
    unfolding whole.take take_reply taking tabled
    take_does =
        table_does PIECE (λ z. omega arith) (λ b share. take_rows b share samples model out answers)
        (λ b share. taken_on b share samples model) said_size n side b store

    -- let through
    take_inside : gate n side b (length store) PIECE ≡ 0
        → whole.take n side b store samples model out answers
        ≡ placed side store (take_work b (get (share_of side) store))
    unfolding taking tabled
    take_inside z =
        take_does
        ∙ table_inside PIECE (λ z. omega arith) (λ b share. take_rows b share samples model out answers)
        (λ b share. taken_on b share samples model) said_size n side b store z

-- ---- a feed: its take, told otherwise

module _ (block : Block) (model : List ℕ) (cleaned records answers : ℕ) where
  -- the rows behind the gate's
  abbrev feed_behind : Record → List Row
  feed_behind b = feed_rows 0 b.waiting (block_size block) cleaned records answers

  abbrev feed_taken : ℕ → Record → List Float → Effect Answer
  feed_taken parity b share = fed_by parity b.frame (take_work (samples_of block) model ROOM answers b share)

  abbrev feed_work : ℕ → Record → List Float → Effect Answer
  feed_work parity b share = refusing (feed_behind b) (λ r. unchanged (Refused r) b share) (feed_taken parity b share)

  feed_sized : (parity : ℕ) (b : Record) (share : List Float) → length share ≡ SHARE
      → length (feed_work parity b share).kept ≡ SHARE
  feed_sized parity b share k =
      by_rows (λ r. unchanged (Refused r) b share) (feed_taken parity b share)
      (λ (o : Effect Answer). length o.kept ≡ SHARE) (feed_behind b)
      (λ _. k) (λ _. take_sized (samples_of block) model ROOM answers b share k)

  unfoldable feeding : Local
  feeding = record { call = PIECE; work = feed_work; sized = feed_sized; blind = λ z. absurd (omega arith) }

  feed_does : (n side : ℕ) (b : Record) (store : List Float)
      → feeds.feed n side b store block model cleaned records answers ≡ performed n side b store feeding
  unfolding feeds.feed performed feeding
  feed_does n side b store = go (eqb number 0) refl
    where
      number : ℕ
      number = gate n side b (length store) PIECE

      share : List Float
      share = get (share_of side) store

      right : Effect Answer
      right = fed_by (side_of side) b.frame (whole.take n side b store (samples_of block) model ROOM answers)

      inside : number ≡ 0 → refusing (feed_behind b) (λ r. unchanged (Refused r) b store) right
          ≡ placed side store (feed_work (side_of side) b share)
      inside z =
          sym (along (placed side store) (λ r. unchanged (Refused r) b share) (feed_taken (side_of side) b share)
          (λ r. unchanged (Refused r) b store) right (feed_behind b)
          (λ r. rw (put_get (share_of side) store))
          (λ _. ap (fed_by (side_of side) b.frame)
          (sym (take_inside (samples_of block) model ROOM answers n side b store z))))

      go : (t : Bool) → eqb number 0 ≡ t
          → cond (not t) (unchanged (Refused number) b store)
          (refusing (feed_behind b) (λ r. unchanged (Refused r) b store) right)
          ≡ cond t (placed side store (feed_work (side_of side) b share)) (unchanged (Refused number) b store)
      go true e = inside (eqb-true number 0 e)
      go false e = refl

-- ---- any of them

locals : Call → Local
locals (ask a) = asking a
locals (frame x m o) = framing x m o
locals (take x m o a) = taking x m o a
locals (feed b m c e a) = feeding b m c e a

does : (n side : ℕ) (ns : List ℕ) (store : List Float) (c : Call)
    → surface n side ns store c ≡ performed n side (record_in side ns) store (locals c)
unfolding hosted_frame hosted_take hosted_feed locals
does n side ns store (ask a) = ask_does a n side ns store
does n side ns store (frame x m o) = frame_does x m o n side (record_in side ns) store
does n side ns store (take x m o a) = take_does x m o a n side (record_in side ns) store
does n side ns store (feed b m c e a) = feed_does b m c e a n side (record_in side ns) store

pub owned : Owned surface
owned = record { local = locals; does = does }

pub our_surface : OurSurface
our_surface = (isolated surface owned BENCHES, undisturbed surface owned BENCHES)

-- an opening on either side is that on a desk of one bench
opening_does : (parity : ℕ) (rec : Record) (xs : List Float) (way : Way) (model : List ℕ) → length xs ≡ SHARE
    → alone_does surface owned parity rec xs (ask (opening way model))
    ≡ with_besides (opening way model) (desk 1 0 rec xs (opening way model))
unfolding owned locals asking lonely
opening_does parity rec xs way model l =
    sym (one_bench (asking (opening way model)) rec xs l) ∙ sym (desk_does (opening way model) 1 0 rec xs)

-- what an opening gives that is done hangs neither on the record nor on the store
opens_alike : (s : ℕ) (more : List Call) (rec : Record) (ns : List ℕ) (xs : List Float) (way : Way) (model : List ℕ)
    → length xs ≡ SHARE
    → passed (desk 1 0 rec xs (opening way model)).answer.reply ≡ true
    → next surface owned s more ns (alone_does surface owned (side_of s) rec xs (ask (opening way model)))
    ≡ next surface owned s more (numbers_of s closed)
    (alone_does surface owned (side_of s) closed (zeros SHARE) (ask (opening way model)))
opens_alike s more rec ns xs way model l p =
    let same = anew rec xs (zeros SHARE) l refl way model p in
    ap (next surface owned s more ns) (opening_does (side_of s) rec xs way model l)
    ∙ alike same
    ∙ ap (next surface owned s more (numbers_of s closed))
    (sym (opening_does (side_of s) closed (zeros SHARE) way model refl))
  where
    alike : desk 1 0 rec xs (opening way model) ≡ desk 1 0 closed (zeros SHARE) (opening way model)
        → next surface owned s more ns (with_besides (opening way model) (desk 1 0 rec xs (opening way model)))
        ≡ next surface owned s more (numbers_of s closed)
        (with_besides (opening way model) (desk 1 0 closed (zeros SHARE) (opening way model)))
    alike same = rw (same, ← same, p)

pub starts_anew : (n : ℕ) → Anew n
unfolding own lone hosted
starts_anew n s h st l way model p calls =
    let xs = get (share_of s) st.store in
    let all = length_get (share_of s) st.store (omega arith) in
    let mine = record_in s (st.numbers s) in
    let done : passed (desk 1 0 mine xs (opening way model)).answer.reply ≡ true =
    rw (its_own n s mine st.store (opening way model) l h) at p in
    in_any_run surface owned n s h (on s (ask (opening way model)) ∷ calls) st l
    ∙ rw (eq-eqb s s refl) (opens_alike s (own s calls) mine (st.numbers s) xs way model all done)
    ∙ ap (λ (rec : Record). next surface owned s (own s calls) (numbers_of s closed)
    (alone_does surface owned (side_of s) rec (zeros SHARE) (ask (opening way model)))) (sym (reads s closed))
    ∙ sym (alone_lone surface owned s (ask (opening way model) ∷ own s calls))

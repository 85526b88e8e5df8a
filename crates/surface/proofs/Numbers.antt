-- What a call returns is a number of the table, and 0 exactly where it is done. Assumes nothing.
use Rattle.std.specs.Prelude.{◌-◌, ◌*◌, ◌≤◌, ◌∷◌, ◌++◌, ◌≡◌}
use Rattle.rules.proofs.Common.{ℕ, Bool, true, false, cond, not, true≢false, List, []}
use Rattle.rules.proofs.Common.{refl, sym, subst, eqb, leb, ltb}
use Rattle.rules.proofs.Common.{length, drop, Float}
use native.Mathlib.Omega.{arith}
use borrow.Author.Tests.{ne_eqb}
use Rattle.rules.specs.Place.{get, put}
use Rattle.rules.specs.Refusals.{wrong, refusing}
use Rattle.frame.specs.Written.{from, nothing, first_in}
use Rattle.rules.proofs.Refusals as gates
use Rattle.samples.specs.Samples.{good}
use Rattle.logs.specs.Log10.{logs_of}
use Rattle.model.specs.Model.{read_of}
use Rattle.model.specs.declared.Model.{Model}
use Rattle.model.specs.Reading.{Reading, Good, Refused as Unread}
use Rattle.model.proofs.Bounds.{refused_in}
use Rattle.lag.specs.Lag.{own_lag}
use Rattle.features.specs.Silence.{energy, is_silent}
use Rattle.frame.specs.Effect.{Effect, refusal, unless}
use Rattle.frame.specs.Reply.{Reply, Done, Silent, Heard, Numbered, Refused, Misread, passed, ◌refusedIf◌}
use Rattle.frame.specs.declared.Way.{Way}
use Rattle.frame.specs.declared.Hearing.{Hearing}
use Rattle.frame.specs.Share.{SHARE, PART, input_mem, kept_ex}
use Rattle.frame.specs.Heard.{spoken}
use Rattle.frame.specs.Frame.{done3, counted, checked, modelled}
use Rattle.frame.specs.Frame as frames
use Rattle.frame.proofs.Tables.{Each, by_rows, by_each}
use Rattle.halves.specs.Own as own
use Rattle.halves.specs.Ways.{lag_by, remembered, forward_by}
use Rattle.halves.specs.Halves as halves
use Rattle.pieces.specs.Pieces.{frame_part, waiting_in, waits, frame_at}
use Rattle.pieces.specs.Pieces as pieces
use Rattle.pieces.proofs.Kept.{further_reply}
use Rattle.desk.specs.Answer.{Answer}
use Rattle.desk.specs.declared.Record.{Record}
use Rattle.desk.specs.Gate.{PIECE, side_of, refusals, gate, share_of}
use Rattle.desk.specs.Desk.{Ask, opening, call1, call2, call2_own, call3, call4, first_half, second_half, piece, resume}
use Rattle.desk.specs.Desk.{call_of, opened, on_share, admitted, desk}
use Rattle.desk.specs.Laws.{placed}
use Rattle.desk.specs.Surface.{record_in, reply_number, hosted}
use Rattle.desk.proofs.Answered.{replied_by}
use Rattle.dictation.specs.Dictation.{frame_on}
use Rattle.whole.specs.Whole.{our_lent, reply_of, unless_refused, frame_rows, frame_reply, take_rows, take_reply}
use Rattle.whole.specs.Whole.{taken_on}
use Rattle.whole.specs.Whole as whole
use Rattle.whole.specs.Surface.{hosted_frame, hosted_take}
use Rattle.feed.specs.Feed.{Block, ROOM, block_size, samples_of, feed_rows, fed_by}
use Rattle.feed.specs.Feed as feeding
use Rattle.feed.specs.Surface.{hosted_feed}
use Rattle.surface.specs.Surface.{Call, ask, frame, take, feed, surface, ZeroIsDone}

-- ---- the table's numbers

abbrev Known : Reply → Type 0
Known (Refused n) = (1 ≤ n) × (n ≤ 9) × (n ≡ 7 → ⊥)
Known (Misread n l) = (11 ≤ n) × (n ≤ 22) × (l ≤ 6)
Known Done = Unit
Known Silent = Unit
Known (Heard v e) = Unit
Known (Numbered f h) = Unit

one : Known (Refused 1)
one = (omega arith, omega arith, λ e. omega arith)

two : Known (Refused 2)
two = (omega arith, omega arith, λ e. omega arith)

three : Known (Refused 3)
three = (omega arith, omega arith, λ e. omega arith)

four : Known (Refused 4)
four = (omega arith, omega arith, λ e. omega arith)

five : Known (Refused 5)
five = (omega arith, omega arith, λ e. omega arith)

six : Known (Refused 6)
six = (omega arith, omega arith, λ e. omega arith)

eight : Known (Refused 8)
eight = (omega arith, omega arith, λ e. omega arith)

nine : Known (Refused 9)
nine = (omega arith, omega arith, λ e. omega arith)

pick : (t : Bool) (r s : Reply) → Known r → Known s → Known (cond t r s)
pick true r s h k = h
pick false r s h k = k

-- ---- a model that is refused

misread : (s : List ℕ) (n l : ℕ) → read_of s ≡ Unread n l → Known (Misread n l)
misread s n l e = refused_in s (sym e)

checks : (same : Model → Bool) (s : List ℕ) → Known (checked same (read_of s))
unfolding checked
checks same s = go (read_of s) refl
  where
    go : (r : Reading) → read_of s ≡ r → Known (checked same r)
    go (Unread n l) e = misread s n l e
    go (Good m) e = pick (same m) Done (Refused 8) tt eight

-- ---- rows

row : (n : ℕ) → Known (Refused n) → (t : Bool) → passed (n refusedIf t) ≡ false → Known (n refusedIf t)
row n k true h = k
row n k false h = tt

-- the gate's
of_gate : (n side : ℕ) (b : Record) (len call : ℕ) → eqb (gate n side b len call) 0 ≡ false
    → Known (Refused (gate n side b len call))
unfolding gate
of_gate n side b len call =
    gates.by_each (λ k. k) 0 (λ k. eqb k 0 ≡ false → Known (Refused k)) (refusals n side b len call)
    ((λ _. one), ((λ _. two), ((λ _. two), ((λ _. three), ((λ _. four), tt))))) (λ e. absurd (true≢false e))

gated : (n side : ℕ) (b : Record) (len call : ℕ) → let number = gate n side b len call in
    Known (number refusedIf not (eqb number 0))
gated n side b len call = go (eqb number 0) refl
  where
    number : ℕ
    number = gate n side b len call

    go : (t : Bool) → eqb number 0 ≡ t → Known (number refusedIf not t)
    go true e = tt
    go false e = of_gate n side b len call e

-- ---- the calls of a frame

module _ (share : List Float) where
  abbrev KnownOf : Effect Reply → Type 0
  KnownOf f = Known f.answer

  by_one : (a : ℕ) (s : Bool) (f : Effect Reply) → Known (Refused a) → KnownOf f
      → KnownOf (unless (a refusedIf s ∷ []) share f)
  by_one a true f k h = k
  by_one a false f k h = h

  by_two : (a b : ℕ) (s t : Bool) (f : Effect Reply) → Known (Refused a) → Known (Refused b) → KnownOf f
      → KnownOf (unless (a refusedIf s ∷ b refusedIf t ∷ []) share f)
  by_two a b true t f k l h = k
  by_two a b false t f k l h = by_one b t f l h

  either : (t : Bool) (f g : Effect Reply) → KnownOf f → KnownOf g → KnownOf (cond t f g)
  either true f g h k = h
  either false f g h k = k

  of_1 : (x : List Float) (w : ℕ) → KnownOf (frames.call1 share x w)
  unfolding frames.call1
  of_1 x w =
      by_two 5 9 (wrong ((length share, PART) ∷ (length x, 480) ∷ (w, 960) ∷ [])) (not (good x))
      (frames.done1 share x) five nine tt

  of_2 : (x : List Float) (lag w s : ℕ) → KnownOf (frames.call2 share x lag w s)
  unfolding frames.call2
  of_2 x lag w s =
      by_two 5 6 (wrong ((length share, PART) ∷ (length x, 961) ∷ (w, 960) ∷ (s, 22) ∷ [])) (ltb 768 lag)
      (frames.done2 share x lag) five six tt

  of_sister : (x : List Float) (w s : ℕ) → KnownOf (own.call2_own share x w s)
  unfolding own.call2_own
  of_sister x w s = of_2 x (own_lag (get input_mem share)) w s

  of_3 : (hearing : Hearing) (x logs : List Float) (model : List ℕ) (out : ℕ)
      → KnownOf (frames.call3 share hearing x logs model out)
  unfolding frames.call3 done3
  of_3 hearing x logs model out =
      by_two 5 5 (wrong ((length share, PART) ∷ (length x, 961) ∷ (length logs, 22) ∷ (out, 961) ∷ []))
      (ltb 7 hearing.index)
      (modelled (counted hearing) (read_of model) share (done3 share hearing.index x logs model)) five five
      (go (read_of model) refl)
    where
      e : Float
      e = energy (get kept_ex share)

      go : (r : Reading) → read_of model ≡ r
          → KnownOf (modelled (counted hearing) r share (done3 share hearing.index x logs model))
      go (Unread n l) q = misread model n l q
      go (Good m) q =
          either (counted hearing m) (done3 share hearing.index x logs model m) (refusal (Refused 8) share)
          (either (is_silent e) (frames.silent share)
          (frames.heard e (spoken share hearing.index x logs model m)) tt tt) eight

  of_4 : (x : List Float) (out : ℕ) → KnownOf (frames.call4 share x out)
  unfolding frames.call4
  of_4 x out =
      by_one 5 (wrong ((length share, PART) ∷ (length x, 960) ∷ (out, 480) ∷ [])) (frames.done4 share x) five tt

module _ (share : List Float) where
  of_first : (way : Way) (x : List Float) (s : ℕ) → Known (halves.first_half share way x s).answer
  unfolding halves.first_half
  of_first way x s =
      let a = frames.call1 share x 960 in
      let b = halves.analysed a.kept way (first_in a.written) s in
      by_one share 5 (wrong ((length share, PART) ∷ (length x, 480) ∷ (s, 22) ∷ []))
      (cond (passed a.answer) b a) five
      (either share (passed a.answer) b a
      (of_2 (remembered way a.kept) (forward_by way (first_in a.written)) (lag_by way a.kept) 960 s)
      (of_1 share x 960))

  of_second : (hearing : Hearing) (logs : List Float) (model : List ℕ) (out : ℕ)
      → Known (halves.second_half share hearing logs model out).answer
  unfolding halves.second_half
  of_second hearing logs model out =
      let a = frames.call3 share hearing (forward_by hearing.way (halves.looked_back share)) logs model 961 in
      let k = of_3 share hearing (forward_by hearing.way (halves.looked_back share)) logs model 961 in
      let b = halves.synthesised a.answer a.kept hearing.way (first_in a.written) out in
      by_two share 5 5 (wrong ((length share, PART) ∷ (length logs, 22) ∷ (out, 480) ∷ [])) (ltb 7 hearing.index)
      (cond (passed a.answer) b a) five five
      (either share (passed a.answer) b a k k)

-- ---- pieces

of_piece : (share : List Float) (way : Way) (waiting : ℕ) (x : List Float) (out sums : ℕ)
    → Known (pieces.piece share way waiting x out sums).answer
unfolding pieces.piece
of_piece share way waiting x out sums =
    by_rows share (pieces.begun share way waiting x) (λ o. Known o.answer)
    (pieces.piece_rows share waiting x out sums) (
      row 5 five (not (eqb (length share) SHARE)),
      (
        row 5 five (not (pieces.piece_fits waiting (length x) out sums)),
        (row 9 nine (not (good (waiting_in waiting share))), (row 9 nine (not (good x)), tt)),
      ),
    )
    (λ _. rw (further_reply Done (waits share []) way (waiting_in waiting share ++ x) nothing) tt)

of_resume : (share : List Float) (hearing : Hearing) (size progress : ℕ) (x logs : List Float) (model : List ℕ)
    (out sums : ℕ)
    → Known (pieces.resume share hearing size progress x logs model out sums).answer
unfolding pieces.resume
of_resume share hearing size progress x logs model out sums =
    let half = halves.second_half (get frame_part share) hearing logs model 480 in
    let place = 480 * (frame_at progress - 1) in
    let fits = pieces.resume_fits hearing.index size progress (length x) (length logs) out sums in
    by_rows share (pieces.resumed share hearing progress x logs model) (λ o. Known o.answer)
    (pieces.resume_rows share hearing size progress x logs model out sums) (
      row 5 five (not (eqb (length share) SHARE)),
      (row 5 five (not fits), ((λ _. checks (counted hearing) model), (row 9 nine (not (good x)), tt))),
    )
    (λ _.
    rw (further_reply half.answer (put frame_part share half.kept) hearing.way (drop progress x)
    (from place (first_in half.written)))
    (of_second (get frame_part share) hearing logs model 480))

-- ---- the desk

of_opening : (share : List Float) (s : List ℕ) → Known (opened share (read_of s)).answer
of_opening share s = go (read_of s) refl
  where
    go : (r : Reading) → read_of s ≡ r → Known (opened share r).answer
    go (Good m) e = tt
    go (Unread n l) e = misread s n l e

of_share : (b : Record) (share : List Float) (a : Ask) → Known (on_share b share a).answer
of_share b share (opening w m) = of_opening share m
of_share b share (call1 x w) = of_1 (get frame_part share) x w
of_share b share (call2 x l w s) = of_2 (get frame_part share) x l w s
of_share b share (call2_own x w s) = of_sister (get frame_part share) x w s
of_share b share (call3 x l m o) = of_3 (get frame_part share) b.hearing x l m o
of_share b share (call4 x o) = of_4 (get frame_part share) x o
of_share b share (first_half x s) = of_first (get frame_part share) b.hearing.way x s
of_share b share (second_half l m o) = of_second (get frame_part share) b.hearing l m o
of_share b share (piece x o s) = of_piece share b.hearing.way b.waiting x o s
of_share b share (resume x l m o s) = of_resume share b.hearing b.piece b.progress x l m o s

of_desk : (n side : ℕ) (b : Record) (store : List Float) (a : Ask) → Known (desk n side b store a).answer.reply
unfolding desk
of_desk n side b store a = replied_by b a (admitted b share a number).answer Known (λ _. tt) (go (eqb number 0) refl)
  where
    share : List Float
    share = get (share_of side) store

    number : ℕ
    number = gate n side b (length store) (call_of a)

    go : (t : Bool) → eqb number 0 ≡ t → Known (cond t (on_share b share a) (refusal (Refused number) share)).answer
    go true e = of_share b share a
    go false e = of_gate n side b (length store) (call_of a) e

-- ---- a frame and a take

-- the gate's row, and these
known_by : (n side : ℕ) (b : Record) (store : List Float) (call : ℕ) (rows : List Reply) (o : Effect Answer)
    → Each Known rows → Known o.answer.reply
    → Known (unless_refused (reply_of (gate n side b (length store) call) rows) side b store o).answer.reply
known_by n side b store call rows o each done = go (passed reply)
  where
    number : ℕ
    number = gate n side b (length store) call

    reply : Reply
    reply = reply_of number rows

    go : (t : Bool)
        → Known (cond t (placed side store o) (refusal (record { reply = reply; rec = b }) store)).answer.reply
    go true = done
    go false =
        by_each Known (number refusedIf not (eqb number 0) ∷ rows) ((λ _. gated n side b (length store) call), each)
        (λ _. tt)

of_frame : (n side : ℕ) (b : Record) (store x : List Float) (model : List ℕ) (out : ℕ)
    → Known (whole.frame n side b store x model out).answer.reply
unfolding whole.frame frame_reply
of_frame n side b store x model out =
    let share = get (share_of side) store in
    let half = halves.first_half (get frame_part share) b.hearing.way x 22 in
    known_by n side b store 1 (frame_rows b x model out) (frame_on b share x (our_lent model)) (
      row 5 five (wrong ((length x, 480) ∷ (out, 480) ∷ [])),
      ((λ _. checks (counted b.hearing) model), (row 9 nine (not (good x)), tt)),
    )
    (of_second half.kept b.hearing (logs_of (first_in half.written)) model 480)

of_take : (n side : ℕ) (b : Record) (store x : List Float) (model : List ℕ) (out answers : ℕ)
    → Known (whole.take n side b store x model out answers).answer.reply
unfolding whole.take take_reply
of_take n side b store x model out answers =
    let share = get (share_of side) store in
    let fits = pieces.piece_fits b.waiting (length x) out 22 in
    let room = leb (3 * pieces.completes b.waiting (length x)) answers in
    known_by n side b store PIECE (take_rows b share x model out answers) (taken_on b share x model) (
      row 5 five (not fits),
      (
        row 5 five (not room),
        ((λ _. checks (counted b.hearing) model), (row 9 nine (not (good (waiting_in b.waiting share ++ x))), tt)),
      ),
    ) tt

of_feed : (n side : ℕ) (b : Record) (store : List Float) (block : Block) (model : List ℕ) (cleaned records answers : ℕ)
    → Known (feeding.feed n side b store block model cleaned records answers).answer.reply
unfolding feeding.feed
of_feed n side b store block model cleaned records answers = go (eqb number 0) refl
  where
    number : ℕ
    number = gate n side b (length store) PIECE

    unfed : ℕ → Effect Answer
    unfed r = refusal (record { reply = Refused r; rec = b }) store

    right : Effect Answer
    right = fed_by (side_of side) b.frame (whole.take n side b store (samples_of block) model ROOM answers)

    go : (t : Bool) → eqb number 0 ≡ t
        → Known (cond (not t) (unfed number)
        (refusing (drop 1 (feed_rows number b.waiting (block_size block) cleaned records answers)) unfed
        right)).answer.reply
    go true e =
        gates.by_each unfed right (λ (o : Effect Answer). Known o.answer.reply)
        (drop 1 (feed_rows number b.waiting (block_size block) cleaned records answers))
        (five, (five, (five, (five, tt)))) (of_take n side b store (samples_of block) model ROOM answers)
    go false e = of_gate n side b (length store) PIECE e

-- ---- 0 is done

zero_is_passed : (r : Reply) → Known r → passed r ≡ eqb (reply_number r) 0
zero_is_passed Done k = refl
zero_is_passed Silent k = refl
zero_is_passed (Heard v e) k = refl
zero_is_passed (Numbered f h) k = refl
zero_is_passed (Refused n) k = sym (ne_eqb n 0 (λ e. omega (arith, k.0)))
zero_is_passed (Misread n l) k = sym (ne_eqb (reply_number (Misread n l)) 0 (λ e. omega arith))

known : (n side : ℕ) (ns : List ℕ) (store : List Float) (c : Call) → Known (surface n side ns store c).answer.reply
unfolding hosted hosted_frame hosted_take hosted_feed
known n side ns store (ask a) = of_desk n side (record_in side ns) store a
known n side ns store (frame x m out) = of_frame n side (record_in side ns) store x m out
known n side ns store (take x m out answers) = of_take n side (record_in side ns) store x m out answers
known n side ns store (feed b m c e a) = of_feed n side (record_in side ns) store b m c e a

pub zero_is_done : ZeroIsDone
zero_is_done n side ns store c =
    let k = known n side ns store c in
    (zero_is_passed (surface n side ns store c).answer.reply k, λ m e. subst Known e k, λ m l e. subst Known e k)

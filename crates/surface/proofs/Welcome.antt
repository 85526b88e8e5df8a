-- A bench that was opened is never turned away: what specs/Welcome.antt claims.
--     waits-good               what waits behind a call that is done is good samples
--     Fit, fit-run             in any run, the record of a bench that was opened is in range, and what waits is good
--     wanted                   then a fair call is as it has to be
--     dictate-ready, whole_ready     a frame, a take and a feed that are done leave call 1 due, and what the opening
-- noted
-- Assumes nothing.
use Rattle.std.specs.Prelude.{◌+◌, ◌-◌, ◌*◌, ◌≤◌, ◌<◌, ◌&&◌, ◌∷◌, ◌++◌, ◌≡◌}
use Rattle.rules.proofs.Common.{ℕ, zero, suc, Bool, true, false, cond, not, false≢true}
use Rattle.rules.proofs.Common.{List, [], refl, sym}
use Rattle.rules.proofs.Common.{ap, ap₂, subst, ◌∙◌, eqb, leb, ltb, length, take as list-take, drop, length-append}
use Rattle.rules.proofs.Common.{length-drop, Float}
use native.Mathlib.Omega.{arith}
use borrow.Author.Tests.{eq-eqb, le-leb, lt-ltb, eqb-true, eqb-false, ltb-true}
use Rattle.rules.specs.Place.{get, put}
use Rattle.rules.proofs.Places.{Within, length_get, get_put}
use Rattle.rules.proofs.Tests.{both}
use Rattle.samples.specs.Samples.{good_sample, good}
use Rattle.model.specs.Model.{read_of}
use Rattle.model.specs.declared.Model.{Model}
use Rattle.model.specs.Reading.{Reading, Good, Refused as Unread}
use Rattle.frame.specs.Written.{Written, from, nothing, first_in}
use Rattle.frame.specs.Frame.{counted, checked}
use Rattle.frame.specs.Effect.{Effect, refusal}
use Rattle.frame.specs.Reply.{passed, Reply, Done, Refused}
use Rattle.frame.specs.Share.{SHARE}
use Rattle.frame.specs.declared.Hearing.{Hearing}
use Rattle.frame.specs.declared.Way.{Way}
use Rattle.halves.specs.Halves as halves
use Rattle.halves.proofs.Kept.{second_half_keeps}
use Rattle.pieces.specs.Pieces as pieces
use Rattle.pieces.specs.Pieces.{frame_part, waiting_in, waits, completes, piece_fits, frame_at, at_end, paused, further}
use Rattle.pieces.proofs.Accepted.{Piece, Resume, piece_taken, resume_taken}
use Rattle.pieces.proofs.Cases.{piece_by, resume_by}
use Rattle.pieces.proofs.Shares.{part_length, waiting_length, waits_length, waiting_back, frame_length}
use Rattle.desk.specs.Answer.{Answer}
use Rattle.desk.specs.declared.Record.{Record}
use Rattle.desk.specs.Gate.{PIECE, idle, under_way, in_pieces, in_range, is_due, share_of}
use Rattle.desk.specs.Desk.{Ask, opening, call1, call2, call2_own, call3, call4, first_half, second_half, piece, resume}
use Rattle.desk.specs.Desk.{call_of, holding, carried, started, recorded, opened, on_share, desk}
use Rattle.desk.specs.Laws.{placed, noted}
use Rattle.desk.specs.Surface.{numbers_of, record_in, handed_back, hosted}
use Rattle.desk.proofs.Answered.{let_in, was_let_in, on_share_lem}
use Rattle.desk.proofs.Apart.{same_length, other_share}
use Rattle.desk.proofs.Kept.{refused_keeps, admitted_kept}
use Rattle.desk.proofs.Ranged.{bounded, open_range, range_kept}
use Rattle.desk.proofs.Turned.{through}
use Rattle.dictation.specs.Dictation.{Lent, frame_on, dictate}
use Rattle.whole.specs.Whole.{our_lent, frame_reply, lent_to_each}
use Rattle.whole.specs.Whole as whole
use Rattle.whole.specs.Surface.{hosted_frame, hosted_take}
use Rattle.whole.proofs.Accepted.{good_rest}
use Rattle.whole.proofs.Ranged.{take_by}
use Rattle.isolation.specs.Isolation.{own}
use Rattle.isolation.specs.Run.{On, on, State, record_at, after, ended, desks, expand}
use Rattle.isolation.proofs.Runs.{reads, record_after, store_after}
use Rattle.feed.specs.Feed.{ROOM, samples_of}
use Rattle.feed.specs.Surface.{hosted_feed}
use Rattle.feed.proofs.Ranged.{feed_by}
use Rattle.surface.specs.Surface.{Call, ask, frame, take, feed, surface, made_of}
use Rattle.surface.specs.Acceptance.{suits, take_asks, wants}
use Rattle.surface.specs.Between.{All}
use Rattle.surface.specs.Welcome.{Fine, Fair, fair_frame, fair_take, fair_feed, NeverTurnedAway, Entire, AlwaysReady}
use Rattle.surface.proofs.Accepted.{accepted}
use Rattle.surface.proofs.Expanded.{expands}
use Rattle.surface.proofs.Refusing.{refused_leaves}
use Rattle.surface.proofs.Rows.{size_is}

-- ---- what waits, over one share

none_waits : (share : List Float) → good (waiting_in 0 share) ≡ true
unfolding get good
none_waits share = refl

good_drop : (k : ℕ) (xs : List Float) → good xs ≡ true → good (drop k xs) ≡ true
unfolding good
good_drop zero xs e = e
good_drop (suc k) [] e = refl
good_drop (suc k) (x ∷ xs) e = good_drop k xs (both (good_sample x) (good xs) e).1

-- the rest of a piece waits, or a frame is begun with it and nothing does
rest_good : (reply : Reply) (share : List Float) → length share ≡ SHARE → (way : Way) (rest : List Float) (w : Written)
    → good rest ≡ true
    → good (waiting_in (cond (ltb (length rest) 480) (length rest) 0) (further reply share way rest w).kept) ≡ true
unfolding further
rest_good reply share l way rest w fine = go (ltb (length rest) 480) refl
  where
    go : (t : Bool) → ltb (length rest) 480 ≡ t
        → good
        (waiting_in (cond t (length rest) 0) (cond t (at_end reply share rest w) (paused reply share way rest w)).kept)
        ≡ true
    go true e = let less = ltb-true (length rest) 480 e in ap good (waiting_back share l rest (omega arith)) ∙ fine
    go false e = none_waits (paused reply share way rest w).kept

carried_waits : (b : Record) (rest size progress : ℕ) → (carried b rest size progress).waiting
    ≡ cond (ltb rest 480) rest 0
unfolding carried
carried_waits b rest size progress = go (ltb rest 480)
  where
    go : (t : Bool) → (cond t (holding 1 b rest 0 0) (holding 3 b 0 size progress)).waiting ≡ cond t rest 0
    go true = refl
    go false = refl

-- a piece and a resume that are done passed every test
piece_fitted : (share : List Float) (way : Way) (waiting : ℕ) (x : List Float) (o s : ℕ)
    → passed (pieces.piece share way waiting x o s).answer ≡ true → Piece share waiting x o s
piece_fitted share way waiting x o s =
    piece_by share (λ f. passed f.answer ≡ true → Piece share waiting x o s)
    (λ n e. absurd (false≢true e)) way waiting
    x o s (λ k _. k)

resume_fitted : (share : List Float) (hearing : Hearing) (noted progress : ℕ) (x g : List Float) (m : List ℕ) (o s : ℕ)
    → passed (pieces.resume share hearing noted progress x g m o s).answer ≡ true
    → Resume share hearing noted progress x g m o s
resume_fitted share hearing noted progress x g m o s =
    resume_by share (λ f. passed f.answer ≡ true → Resume share hearing noted progress x g m o s)
    (λ n e. absurd (false≢true e)) hearing noted progress x g m o s (λ n j _ e. absurd (false≢true e)) (λ k _. k)

module _ (b : Record) (share : List Float) (l : length share ≡ SHARE) where
  abbrev Sound : Ask → Type 0
  Sound a = good (waiting_in (recorded b a (on_share b share a).answer).waiting (on_share b share a).kept) ≡ true

  open_sound : (w : Way) (m : List ℕ) → passed (on_share b share (opening w m)).answer ≡ true → Sound (opening w m)
  open_sound w m = go (read_of m) refl
    where
      go : (read : Reading) → read_of m ≡ read → passed (opened share read).answer ≡ true
          → good (waiting_in (recorded b (opening w m) (opened share read).answer).waiting (opened share read).kept)
          ≡ true
      go (Good k) e p = rw e (none_waits (opened share (Good k)).kept)
      go (Unread n j) e p = absurd (false≢true p)

  piece_sound : (x : List Float) (o s : ℕ) → passed (on_share b share (piece x o s)).answer ≡ true → Sound (piece x o s)
  piece_sound x o s p =
      let k = piece_fitted share b.hearing.way b.waiting x o s p in
      let rest = waiting_in b.waiting share ++ x in
      let long : length rest ≡ b.waiting + length x =
      length-append (waiting_in b.waiting share) x
      ∙ ap (λ (m : ℕ). m + length x) (waiting_length share l b.waiting k.waits) in
      let fine : good rest ≡ true = good_rest (waiting_in b.waiting share) x k.waited ∙ k.fine in
      let next = rest_good Done (waits share []) (waits_length share l []) b.hearing.way rest nothing fine in
      rw (
        carried_waits b (b.waiting + length x) (length x) (480 - b.waiting),
        piece_taken share b.hearing.way
            b.waiting x o s k,
      ) (rw long at next)

  resume_sound : (x g : List Float) (m : List ℕ) (o s : ℕ) → passed (on_share b share (resume x g m o s)).answer ≡ true
      → Sound (resume x g m o s)
  resume_sound x g m o s p =
      let k = resume_fitted share b.hearing b.piece b.progress x g m o s p in
      let h = halves.second_half (get frame_part share) b.hearing g m 480 in
      let keeps = second_half_keeps (get frame_part share) b.hearing g m 480 in
      let rest = drop b.progress x in
      let w : Written = from (480 * (frame_at b.progress - 1)) (first_in h.written) in
      let next =
      rest_good h.answer (put frame_part share h.kept) (frame_length share l h.kept (keeps.size
      ∙ part_length share l)) b.hearing.way rest w
      (good_drop b.progress x k.fine) in
      rw (
        carried_waits _ (length x - b.progress) (length x) (b.progress + 480),
        resume_taken share b.hearing
            b.piece b.progress x g m o s k,
      )
      (rw (length-drop b.progress x) at next)

  done_sound : (a : Ask) → passed (on_share b share a).answer ≡ true → Sound a
  done_sound (opening w m) p = open_sound w m p
  done_sound (call1 x w) p = none_waits (on_share b share (call1 x w)).kept
  done_sound (call2 x g w s) p = none_waits (on_share b share (call2 x g w s)).kept
  done_sound (call2_own x w s) p = none_waits (on_share b share (call2_own x w s)).kept
  done_sound (call3 x g m o) p = none_waits (on_share b share (call3 x g m o)).kept
  done_sound (call4 x o) p = none_waits (on_share b share (call4 x o)).kept
  done_sound (first_half x s) p = none_waits (on_share b share (first_half x s)).kept
  done_sound (second_half g m o) p = none_waits (on_share b share (second_half g m o)).kept
  done_sound (piece x o s) p = piece_sound x o s p
  done_sound (resume x g m o s) p = resume_sound x g m o s p

-- on a side of a store
module _ (n side : ℕ) (b : Record) (store : List Float) (a : Ask) (p : passed (desk n side b store a).answer.reply
    ≡ true) where
  right : (side < n) × (length store ≡ n * SHARE)
  right = through n side b (length store) (call_of a) (was_let_in b a n side store p)

  waits_good : good (waiting_in (desk n side b store a).answer.rec.waiting
      (get (share_of side) (desk n side b store a).kept)) ≡ true
  waits_good =
      let share = get (share_of side) store in
      let inside : Within (share_of side) store = omega (arith, right.0, right.1) in
      let full : length share ≡ SHARE = length_get (share_of side) store (omega (arith, right.0, right.1)) in
      let q = on_share_lem b a n side store p in
      rw (
        let_in b a n side store (was_let_in b a n side store p),
        q,
        get_put (share_of side) store
            (on_share b share a).kept inside ((admitted_kept b share a 0).size full),
      )
      (done_sound b share full a q)

-- ---- any run

-- the store has its length, the bench's record is in range, and what waits is good samples
record Fit (n bench : ℕ) (st : State) : Type 0 where
  sized : length st.store ≡ n * SHARE
  ranged : in_range (record_at bench st) ≡ true
  waited : good (waiting_in (record_at bench st).waiting (get (share_of bench) st.store)) ≡ true

module _ (n bench : ℕ) where
  -- by what the record and the store are
  fit_by : (st : State) (b : Record) (store : List Float) → record_at bench st ≡ b → st.store ≡ store
      → length store ≡ n * SHARE → in_range b ≡ true
      → good (waiting_in b.waiting (get (share_of bench) store)) ≡ true → Fit n bench st
  fit_by st b store e f l r w =
      record {
        sized = ap length f ∙ l;
        ranged = ap in_range e ∙ r;
        waited = ap₂ (λ (x : Record) (s : List Float). good (waiting_in x.waiting (get (share_of bench) s))) e f ∙ w;
      }

  -- behind a call of the bench
  mine_after : (st : State) (a : Ask) → record_at bench (after desks n st (on bench a))
      ≡ (desk n bench (record_at bench st) st.store a).answer.rec
  mine_after st a =
      record_after n bench st (on bench a)
      ∙ ap (λ (t : Bool). cond t (desk n bench (record_at bench st) st.store a).answer.rec (record_at bench st))
      (eq-eqb bench bench refl)

  fit_done : (st : State) (a : Ask) → passed (desk n bench (record_at bench st) st.store a).answer.reply ≡ true
      → Fit n bench (after desks n st (on bench a))
  fit_done st a p =
      let b = record_at bench st in
      let long = (right n bench b st.store a p).1 in
      fit_by (after desks n st (on bench a)) (desk n bench b st.store a).answer.rec
      (desk n bench b st.store a).kept (mine_after st a)
      (store_after n st (on bench a)) (same_length n bench b st.store a long ∙ long)
      (range_kept n bench b st.store a p).1 (waits_good n bench b st.store a p)

  fit_own : (st : State) (a : Ask) → Fit n bench st → Fit n bench (after desks n st (on bench a))
  fit_own st a k = go (passed (desk n bench (record_at bench st) st.store a).answer.reply) refl
    where
      go : (t : Bool) → passed (desk n bench (record_at bench st) st.store a).answer.reply ≡ t
          → Fit n bench (after desks n st (on bench a))
      go true p = fit_done st a p
      go false p =
          let r = refused_keeps n bench (record_at bench st) st.store a p in
          fit_by (after desks n st (on bench a)) (record_at bench st) st.store (mine_after st a ∙ r.0)
          (store_after n st (on bench a) ∙ r.1) k.sized k.ranged k.waited

  fit_other : (side : ℕ) → eqb side bench ≡ false → (st : State) (a : Ask) → Fit n bench st
      → Fit n bench (after desks n st (on side a))
  fit_other side e st a k =
      let its = record_at side st in
      let left = (desk n side its st.store a).kept in
      fit_by (after desks n st (on side a)) (record_at bench st) left
      (record_after n bench st (on side a)
      ∙ ap (λ (t : Bool). cond t (desk n side its st.store a).answer.rec (record_at bench st)) e)
      (store_after n st (on side a)) (same_length n side its st.store a k.sized ∙ k.sized) k.ranged
      (ap (λ (xs : List Float). good (waiting_in (record_at bench st).waiting xs))
      (other_share n side its st.store a k.sized bench (eqb-false side bench e)) ∙ k.waited)

  fit_step : (st : State) (c : On Ask) → Fit n bench st → Fit n bench (after desks n st c)
  fit_step st c k = go (eqb c.side bench) refl
    where
      go : (t : Bool) → eqb c.side bench ≡ t → Fit n bench (after desks n st (on c.side c.call))
      go true e = subst (λ (s : ℕ). Fit n bench (after desks n st (on s c.call))) (sym (eqb-true c.side bench e))
          (fit_own st c.call k)
      go false e = fit_other c.side e st c.call k

  fit_run : (cs : List (On Ask)) (st : State) → Fit n bench st → Fit n bench (ended desks n st cs)
  unfolding ended
  fit_run [] st k = k
  fit_run (c ∷ cs) st k = fit_run cs (after desks n st c) (fit_step st c k)

  -- since an opening
  fit_opened : (st : State) (way : Way) (model : List ℕ)
      → passed (hosted n bench (st.numbers bench) st.store (opening way model)).answer.reply ≡ true
      → (calls : List (On Call)) → Fit n bench (ended surface n st (on bench (ask (opening way model)) ∷ calls))
  unfolding ended hosted
  fit_opened st way model p calls =
      let then = after surface n st (on bench (ask (opening way model))) in
      subst (Fit n bench) (sym (expands n then calls)) (fit_run (expand surface made_of n then calls) then
      (fit_done st (opening way model) p))

-- ---- a fair call

and : {p q : Bool} → p ≡ true → q ≡ true → (p && q) ≡ true
and {p = true} e f = f
and {p = false} e f = e

module _ (rec : Record) (due : rec.due ≡ 1) where
  ajar : not (eqb rec.due 0) ≡ true
  ajar = ap (λ (k : ℕ). not (eqb k 0)) due

  piece_due : is_due rec PIECE ≡ true
  unfolding is_due
  piece_due = eq-eqb rec.due 1 due

  -- no piece is unfinished
  no_piece : in_range rec ≡ true → rec.piece ≡ 0
  unfolding in_pieces under_way
  no_piece r = go (eqb rec.piece 0) refl
    where
      go : (t : Bool) → eqb rec.piece 0 ≡ t → rec.piece ≡ 0
      go true e = eqb-true rec.piece 0 e
      go false e =
          let under = rw e at (open_range rec (λ z. omega (arith, z, due)) r).2 in
          let third = both (eqb rec.due 3) _ (both (leb rec.piece 4096) _ under).1 in
          absurd (omega (arith, due, eqb-true rec.due 3 third.0))

  frame_due : in_range rec ≡ true → rec.waiting ≡ 0 → is_due rec 1 ≡ true
  unfolding is_due idle
  frame_due r z = and (eq-eqb rec.due 1 due) (and (eq-eqb rec.waiting 0 z) (eq-eqb rec.piece 0 (no_piece r)))

  module _ (share : List Float) (r : in_range rec ≡ true) (w : good (waiting_in rec.waiting share) ≡ true) where
    take_wanted : (x : List Float) (m : List ℕ) (o a : ℕ) → Fine rec x m → 480 * completes rec.waiting (length x) ≤ o
        → 3 * completes rec.waiting (length x) ≤ a → take_asks rec share x m o a ≡ true
    unfolding piece_fits
    take_wanted x m o a k room told =
        and (and ajar piece_due)
        (and
        (and (le-leb rec.waiting 479 (bounded rec r).waiting)
        (and (le-leb 1 (length x) k.some)
        (and (le-leb (length x) 4096 k.few) (and (le-leb _ o room) (eq-eqb 22 22 refl)))))
        (and (le-leb _ a told) (and k.suited (good_rest (waiting_in rec.waiting share) x w ∙ k.sound))))

    wanted : {c : Call} → Fair rec c → wants rec share c ≡ true
    wanted (fair_frame x m k size none) =
        and (and ajar (frame_due r none))
        (and (eq-eqb (length x) 480 size) (and (eq-eqb 480 480 refl) (and k.suited k.sound)))
    wanted (fair_take x m o a k room told) = take_wanted x m o a k room told
    wanted (fair_feed b m c e a k room places told) =
        and (le-leb _ c room)
        (and (le-leb _ e places) (take_wanted (samples_of b) m ROOM a k (omega (arith, (bounded rec r).waiting, k.few))
        (rw (size_is b) told)))

-- an opening that is done is on one of the benches
seat : (n bench : ℕ) (st : State) (way : Way) (model : List ℕ)
    → passed (hosted n bench (st.numbers bench) st.store (opening way model)).answer.reply ≡ true → bench < n
unfolding hosted
seat n bench st way model p = (right n bench (record_at bench st) st.store (opening way model) p).0

pub never_turned_away : NeverTurnedAway
never_turned_away n bench st way model p calls due c fair =
    let end = ended surface n st (on bench (ask (opening way model)) ∷ calls) in
    let k = fit_opened n bench st way model p calls in
    let rec = record_at bench end in
    accepted n bench (end.numbers bench) end.store c
    ∙ and (and (lt-ltb bench n (seat n bench st way model p)) (and (eq-eqb (length end.store) (n * SHARE) k.sized)
    k.ranged))
    (wanted rec due (get (share_of bench) end.store) k.ranged k.waited fair)

-- ---- frames, takes and feeds alone

-- call 1 is due, and what the opening noted is as it was
abbrev Ready : Record → Record → Type 0
Ready b a = (a.due ≡ 1) × (noted a.hearing ≡ noted b.hearing)

dictate_ready : (ls : List Lent) (b : Record) (share xs : List Float) → Ready b (dictate b share xs ls).rec
unfolding dictate
dictate_ready [] b share xs = (refl, refl)
dictate_ready (l ∷ more) b share xs =
    let o = frame_on b share (list-take 480 xs) l in dictate_ready more o.answer.rec o.kept (drop 480 xs)

frame_ready : (n side : ℕ) (b : Record) (store x : List Float) (m : List ℕ) (o : ℕ)
    → passed (whole.frame n side b store x m o).answer.reply ≡ true
    → Ready b (whole.frame n side b store x m o).answer.rec
unfolding whole.frame
frame_ready n side b store x m o = go (passed reply) refl
  where
    reply : Reply
    reply = frame_reply n side b (length store) x m o

    done : Effect Answer
    done = frame_on b (get (share_of side) store) x (our_lent m)

    go : (t : Bool) → passed reply ≡ t
        → let f = cond t (placed side store done) (refusal (record { reply = reply; rec = b }) store) in
        passed f.answer.reply ≡ true → Ready b f.answer.rec
    go true e p = (refl, refl)
    go false e p = absurd (false≢true (sym e ∙ p))

take_ready : (n side : ℕ) (b : Record) (store x : List Float) (m : List ℕ) (o a : ℕ)
    → passed (whole.take n side b store x m o a).answer.reply ≡ true
    → Ready b (whole.take n side b store x m o a).answer.rec
take_ready n side b store x m o a =
    let share = get (share_of side) store in
    take_by n side x m b store o a (λ (t : Effect Answer). passed t.answer.reply ≡ true → Ready b t.answer.rec)
    (λ _ _. dictate_ready (lent_to_each b x m) b share (waiting_in b.waiting share ++ x))
    (λ q p. absurd (false≢true (sym q ∙ p)))

whole_ready : (n side : ℕ) (ns : List ℕ) (store : List Float) (c : Call) → Entire c
    → passed (surface n side ns store c).answer.reply ≡ true
    → Ready (record_in side ns) (surface n side ns store c).answer.rec
unfolding hosted_frame hosted_take hosted_feed
whole_ready n side ns store (ask a) e = absurd e
whole_ready n side ns store (frame x m o) e = frame_ready n side (record_in side ns) store x m o
whole_ready n side ns store (take x m o a) e = take_ready n side (record_in side ns) store x m o a
whole_ready n side ns store (feed b m c r a) e =
    feed_by n side (record_in side ns) store b m c r a (λ (t : Effect Answer). passed t.answer.reply ≡ true
    → Ready (record_in side ns) t.answer.rec)
    (λ _ p. absurd (false≢true p)) (take_ready n side (record_in side ns) store (samples_of b) m ROOM a)

module _ (n bench : ℕ) (q : ℕ × ℕ × ℕ × Way) where
  abbrev Keeps : State → Type 0
  Keeps st = ((record_at bench st).due ≡ 1) × (noted (record_at bench st).hearing ≡ q)

  keeps_by : (st : State) (b : Record) → record_at bench st ≡ b → (b.due ≡ 1) × (noted b.hearing ≡ q) → Keeps st
  keeps_by st b e k = (ap (λ (x : Record). x.due) e ∙ k.0, ap (λ (x : Record). noted x.hearing) e ∙ k.1)

  behind : (st : State) (c : Call) → record_at bench (after surface n st (on bench c))
      ≡ record_in bench (handed_back bench (surface n bench (st.numbers bench) st.store c).answer
      (st.numbers bench))
  behind st c = rw (eq-eqb bench bench refl)

  own_keeps : (st : State) (c : Call) → Entire c → Keeps st → Keeps (after surface n st (on bench c))
  own_keeps st c w k = go (passed a.reply) refl
    where
      a : Answer
      a = (surface n bench (st.numbers bench) st.store c).answer

      go : (t : Bool) → passed a.reply ≡ t → Keeps (after surface n st (on bench c))
      go true p =
          let r = whole_ready n bench (st.numbers bench) st.store c w p in
          keeps_by (after surface n st (on bench c)) a.rec
          (behind st c ∙ ap (λ (t : Bool). record_in bench (cond t (numbers_of bench a.rec) (st.numbers bench))) p
          ∙ reads bench a.rec) (r.0, r.1 ∙ k.1)
      go false p =
          keeps_by (after surface n st (on bench c)) (record_at bench st)
          (behind st c ∙ ap (record_in bench) (refused_leaves n bench (st.numbers bench) st.store c p).0) k

  other_keeps : (side : ℕ) → eqb side bench ≡ false → (st : State) (c : Call) → Keeps st
      → Keeps (after surface n st (on side c))
  other_keeps side e st c k = keeps_by (after surface n st (on side c)) (record_at bench st) (rw e) k

  keeps_run : (cs : List (On Call)) (st : State) → All Entire (own bench cs) → Keeps st → Keeps (ended surface n st cs)
  unfolding ended own
  keeps_run [] st h k = k
  keeps_run (c ∷ cs) st h k = go (eqb c.side bench) refl h (keeps_run cs (after surface n st c))
    where
      go : (t : Bool) → eqb c.side bench ≡ t → All Entire (cond t (c.call ∷ own bench cs) (own bench cs))
          → (All Entire (own bench cs) → Keeps (after surface n st (on c.side c.call))
          → Keeps (ended surface n (after surface n st c) cs))
          → Keeps (ended surface n (after surface n st c) cs)
      go true e h rest =
          rest h.1 (subst (λ (s : ℕ). Keeps (after surface n st (on s c.call))) (sym (eqb-true c.side bench e))
          (own_keeps st c.call h.0 k))
      go false e h rest = rest h (other_keeps c.side e st c.call k)

-- a model suits by what was noted alone
abbrev suits_by : ℕ × ℕ × ℕ × Way → List ℕ → Bool
suits_by q m =
    passed
    (checked (λ (k : Model). eqb k.vad_gru.neurons q.0 && (eqb k.noise_gru.neurons q.1
    && eqb k.denoise_gru.neurons q.2)) (read_of m))

own_counts : (m : Model) (way : Way) (b : Record)
    → passed (checked (counted (started b way (Good m)).hearing) (Good m)) ≡ true
unfolding checked
own_counts m way b =
    let v = m.vad_gru.neurons in
    let o = m.noise_gru.neurons in
    let d = m.denoise_gru.neurons in
    let all : (eqb v v && (eqb o o && eqb d d)) ≡ true = and (eq-eqb v v refl) (and (eq-eqb o o refl) (eq-eqb d d refl))
    in
    ap (λ (t : Bool). passed (cond t Done (Refused 8))) all

started_ready : (b : Record) (share : List Float) (way : Way) (model : List ℕ)
    → passed (opened share (read_of model)).answer ≡ true
    → ((started b way (read_of model)).due ≡ 1) × (suits (started b way (read_of model)) model ≡ true)
started_ready b share way model = go (read_of model) refl
  where
    go : (read : Reading) → read_of model ≡ read → passed (opened share read).answer ≡ true
        → ((started b way read).due ≡ 1) × (passed (checked (counted (started b way read).hearing) (read_of model))
        ≡ true)
    go (Good m) e p = (
      refl,
      ap (λ (x : Reading). passed (checked (counted (started b way (Good m)).hearing) x)) e
          ∙ own_counts m way b,
    )
    go (Unread k l) e p = absurd (false≢true p)

opened_ready : (n bench : ℕ) (b : Record) (store : List Float) (way : Way) (model : List ℕ)
    → passed (desk n bench b store (opening way model)).answer.reply ≡ true
    → let a = (desk n bench b store (opening way model)).answer in (a.rec.due ≡ 1) × (suits a.rec model ≡ true)
opened_ready n bench b store way model p =
    let a = opening way model in
    let q = on_share_lem b a n bench store p in
    rw (let_in b a n bench store (was_let_in b a n bench store p), q)
    (started_ready b (get (share_of bench) store) way model q)

pub always_ready : AlwaysReady
unfolding ended hosted
always_ready n bench st way model p calls h =
    let then = after surface n st (on bench (ask (opening way model))) in
    let b = (desk n bench (record_at bench st) st.store (opening way model)).answer.rec in
    let r = opened_ready n bench (record_at bench st) st.store way model p in
    let begun = keeps_by n bench (noted b.hearing) then b (mine_after n bench st (opening way model)) (r.0, refl) in
    let k = keeps_run n bench (noted b.hearing) calls then h begun in
    (k.0, ap (λ (x : ℕ × ℕ × ℕ × Way). suits_by x model) k.1 ∙ r.1)

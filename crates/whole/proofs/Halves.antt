-- A frame that is accepted is its two halves (`two_halves`); what is refused changes nothing (`refused_is`,
-- `frame_leaves`, `take_leaves`). Assumes nothing.
use Rattle.std.specs.Prelude.{◌*◌, ◌<◌, ◌≡◌}
use Rattle.rules.proofs.Common.{ℕ, Bool, true, false, true≢false, false≢true, List, refl, sym, ap, subst}
use Rattle.rules.proofs.Common.{◌∙◌, eqb, length, Float}
use native.Mathlib.Omega.{arith}
use borrow.Author.Tests.{eqb-true, lt-ltb, eq-eqb, not-false}
use Rattle.rules.specs.Place.{get, put}
use Rattle.frame.specs.Written.{first_in}
use Rattle.rules.proofs.Places.{length_get, length_put, get_put, put_put}
use Rattle.rules.proofs.Tests.{both}
use Rattle.logs.specs.Log10.{logs_of}
use Rattle.desk.specs.Answer.{Answer}
use Rattle.frame.specs.Effect.{Effect, refusal}
use Rattle.frame.specs.Reply.{Reply}
use Rattle.frame.specs.Reply.{Done}
use Rattle.frame.specs.declared.Way.{Way}
use Rattle.frame.specs.Share.{SHARE}
use Rattle.frame.specs.Reply.{passed}
use Rattle.halves.specs.Halves as halves
use Rattle.halves.proofs.Cases.{first_half_by}
use Rattle.pieces.specs.Pieces.{frame_part}
use Rattle.pieces.proofs.Halved.{Halved, first_passes, second_passes}
use Rattle.pieces.proofs.Shares.{part_length, frame_length, frame_back, frame_frame}
use Rattle.desk.specs.declared.Record.{Record}
use Rattle.desk.specs.Gate.{idle, in_range, is_due, gate, share_of}
use Rattle.desk.specs.Desk.{first_half, second_half, holding, advanced, desk}
use Rattle.desk.specs.Laws.{placed}
use Rattle.desk.proofs.Answered.{let_in}
use Rattle.desk.proofs.Ranged.{bounded, range_kept}
use Rattle.desk.proofs.Turned.{none, through}
use Rattle.dictation.specs.Dictation.{frame_on}
use Rattle.whole.specs.Whole.{our_lent, frame_reply, frame, take_reply, take}
use Rattle.whole.specs.Laws.{frame_begins, frame_ends, TwoHalves}
use Rattle.whole.proofs.Accepted.{logs_length, Frame, frame_accepted}
use Rattle.whole.proofs.Behind.{by_reply, let_in_range}

-- behind a call 1 that was let through, the second half is
third_due : (n side : ℕ) (rec : Record) (reply : Reply) (len : ℕ) → side < n → len ≡ n * SHARE → rec.due ≡ 1
    → in_range (advanced (advanced rec reply) reply) ≡ true
    → gate n side (advanced (advanced rec reply) reply) len 3 ≡ 0
unfolding gate is_due idle
third_due n side rec reply len h l d range = rw (lt-ltb side n h, eq-eqb len (n * SHARE) l, range, d)

-- a first half that is done is answered with Done
done_first_lem : (part : List Float) (way : Way) (samples : List Float) (sums : ℕ)
    → passed (halves.first_half part way samples sums).answer ≡ true
    → (halves.first_half part way samples sums).answer ≡ Done
done_first_lem part way samples sums =
    first_half_by part (λ f. passed f.answer ≡ true → f.answer ≡ Done)
    (λ _ p. absurd (false≢true p)) way samples sums (λ _ _ _. refl)

module _ (n side : ℕ) (rec : Record) (store samples : List Float) (model : List ℕ) (out : ℕ)
    (k : Frame n side rec store samples model out) where
  abbrev share : List Float
  share = get (share_of side) store

  abbrev half : Effect Reply
  half = halves.first_half (get frame_part (get (share_of side) store)) rec.hearing.way samples 22

  abbrev left : List Float
  left = put frame_part (get (share_of side) store) half.kept

  abbrev next : Record
  next = advanced (advanced rec half.answer) half.answer

  abbrev between : List Float
  between = put (share_of side) store left

  abbrev logs : List Float
  logs = logs_of (first_in half.written)

  abbrev rest : Effect Reply
  rest = halves.second_half half.kept rec.hearing logs model 480

  inside : (side < n) × (length store ≡ n * SHARE)
  inside = through n side rec (length store) 1 k.gated

  whole : length (get (share_of side) store) ≡ SHARE
  whole = let t = inside in length_get (share_of side) store (omega arith)

  halved : Halved 22 half
  halved = first_passes (get frame_part share) rec.hearing.way samples (part_length share whole) k.size k.fine

  first_is : frame_begins n side rec store samples
      ≡ record { answer = record { reply = half.answer; rec = next }; kept = between; written = half.written }
  first_is = let_in rec (first_half samples 22) n side store k.gated ∙ rw halved.passes

  first_done : passed (frame_begins n side rec store samples).answer.reply ≡ true
  first_done = ap (λ (o : Effect Answer). passed o.answer.reply) first_is ∙ halved.passes

  sized : length between ≡ n * SHARE
  sized = let t = inside in
      length_put (share_of side) store left (omega arith) (frame_length share whole half.kept halved.part) ∙ t.1

  in_range_lem : in_range next ≡ true
  in_range_lem =
      ap (λ (o : Effect Answer). in_range o.answer.rec) (sym first_is)
      ∙ (range_kept n side rec store (first_half samples 22) first_done).1

  -- call 1 is due, where it was let through
  due : rec.due ≡ 1
  unfolding is_due
  due = let c = none n side rec (length store) 1 k.gated in
      eqb-true rec.due 1 (both (eqb rec.due 1) (idle rec) (not-false _ c.1.1.1.1.0)).0

  -- and then call 3, on the same record
  next_is : next ≡ holding 3 rec 0 0 0
  next_is = rw (done_first_lem (get frame_part share) rec.hearing.way samples 22 halved.passes, due)

  second_halved : Halved 480 rest
  second_halved =
      second_passes half.kept rec.hearing logs model halved.part (logs_length _)
      (bounded rec (let_in_range n side rec (length store) 1 k.gated)).index
      k.right

  second_is : desk n side next between (second_half logs model out)
      ≡ placed side store (frame_on rec share samples (our_lent model))
  second_is =
      let t = inside in
      let e = subst (λ (b : Record). gate n side b (length between) 3 ≡ 0) next_is
      (third_due n side rec half.answer (length between) t.0 sized due in_range_lem) in
      let back =
      get_put (share_of side) store left (omega arith) (frame_length share whole half.kept halved.part) in
      ap (λ (b : Record). desk n side b between (second_half logs model out)) next_is
      ∙ let_in (holding 3 rec 0 0 0) (second_half logs model out) n side between e
      ∙ rw (
        k.room,
        back,
        frame_back share whole half.kept halved.part,
        frame_frame share whole half.kept halved.part,
        second_halved.passes,
        put_put (share_of side) store left (put frame_part share rest.kept) (omega arith)
            (frame_length share whole half.kept halved.part),
      )

  ends_is : frame_ends n side rec store samples model out
      ≡ placed side store (frame_on rec share samples (our_lent model))
  ends_is =
      ap (λ (o : Effect Answer). desk n side o.answer.rec o.kept
      (second_half (logs_of (first_in o.written)) model out)) first_is ∙ second_is

module _ (n side : ℕ) (rec : Record) (store samples : List Float) (model : List ℕ) (out : ℕ) where
  accepted_is : passed (frame_reply n side rec (length store) samples model out) ≡ true
      → frame n side rec store samples model out
      ≡ placed side store (frame_on rec (get (share_of side) store) samples (our_lent model))
  unfolding frame
  accepted_is p = rw p

  pub refused_is : passed (frame_reply n side rec (length store) samples model out) ≡ false
      → frame n side rec store samples model out
      ≡ refusal (record { reply = frame_reply n side rec (length store) samples model out; rec = rec }) store
  unfolding frame
  refused_is p = rw p

pub two_halves : TwoHalves
two_halves n side rec store samples model out p =
    let k = frame_accepted n side rec store samples model out p in
    let e = ends_is n side rec store samples model out k in (
      first_done n side rec store samples model out k,
      ap (λ (o : Effect Answer). passed o.answer.reply) e
          ∙ (second_halved n side rec store samples model out k).passes,
      accepted_is n side rec store samples model out p ∙ sym e,
    )

pub frame_leaves : (n side : ℕ) (rec : Record) (store samples : List Float) (model : List ℕ) (out : ℕ)
    → let o = frame n side rec store samples model out in passed o.answer.reply ≡ false
    → o ≡ refusal (record { reply = o.answer.reply; rec = rec }) store
frame_leaves n side rec store samples model out = go (passed reply) refl
  where
    reply : Reply
    reply = frame_reply n side rec (length store) samples model out

    o : Effect Answer
    o = frame n side rec store samples model out

    go : (t : Bool) → passed reply ≡ t → passed o.answer.reply ≡ false
        → o ≡ refusal (record { reply = o.answer.reply; rec = rec }) store
    go true p e =
        let h = two_halves n side rec store samples model out p in
        absurd (true≢false (sym (ap (λ (g : Effect Answer). passed g.answer.reply) h.2 ∙ h.1) ∙ e))
    go false p e =
        let is = refused_is n side rec store samples model out p in
        is ∙ ap (λ (g : Effect Answer). refusal (record { reply = g.answer.reply; rec = rec }) store) (sym is)

pub take_leaves : (n side : ℕ) (rec : Record) (store samples : List Float) (model : List ℕ) (out answers : ℕ)
    → let o = take n side rec store samples model out answers in passed o.answer.reply ≡ false
    → o ≡ refusal (record { reply = o.answer.reply; rec = rec }) store
unfolding take
take_leaves n side rec store samples model out answers =
    by_reply (take_reply n side rec store samples model out answers) side rec store _
    (λ o. passed o.answer.reply ≡ false → o ≡ refusal (record { reply = o.answer.reply; rec = rec }) store)
    (λ _ e. absurd (true≢false e)) (λ _ _. refl)

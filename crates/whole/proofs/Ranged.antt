-- What a frame and a take give a host that hands their record back as numbers.
--     frame_small, take_small      a refused model's number and layer are small
--     frame_range, take_range      where it is done, the record that it was given and the one that it gives back are in
--                                  range
--     frame_buffers                a frame writes to its buffer, or is refused and writes to none
--     frame_no_out                 a frame with no place for its samples is refused
--     take_by                      what holds of a take, by its tests
-- Assumes nothing.
use Rattle.std.specs.Prelude.{◌*◌, ◌<◌, ◌∷◌, ◌++◌, ◌≡◌}
use Rattle.rules.proofs.Common.{ℕ, Bool, true, false, cond, not, false≢true, List, [], refl}
use Rattle.rules.proofs.Common.{sym, ◌∙◌, eqb, leb}
use Rattle.rules.proofs.Common.{length, Float}
use native.Mathlib.Omega.{arith}
use Rattle.rules.specs.Place.{get}
use Rattle.rules.specs.Refusals.{wrong}
use Rattle.frame.specs.Written.{first_in}
use Rattle.samples.specs.Samples.{good}
use Rattle.logs.specs.Log10.{logs_of}
use Rattle.model.specs.Model.{read_of}
use Rattle.model.proofs.Bounds.{refused_in}
use Rattle.desk.specs.Answer.{Answer}
use Rattle.frame.specs.Effect.{Effect, refusal}
use Rattle.frame.specs.Reply.{Reply}
use Rattle.frame.specs.Reply.{passed, ◌refusedIf◌}
use Rattle.frame.specs.Frame.{counted, checked}
use Rattle.frame.proofs.Tables.{by_number, by_each}
use Rattle.pieces.specs.Pieces.{waiting_in, completes, piece_fits}
use Rattle.pieces.proofs.Tested.{by_model}
use Rattle.desk.specs.declared.Record.{Record}
use Rattle.desk.specs.Gate.{PIECE, in_range, gate, share_of}
use Rattle.desk.specs.Desk.{Ask, second_half, piece}
use Rattle.desk.specs.Laws.{placed}
use Rattle.desk.proofs.Buffers.{buffers}
use Rattle.desk.proofs.Ranged.{range_kept}
use Rattle.desk.proofs.Replies.{SmallSeven, small}
use Rattle.dictation.specs.Dictation.{Lent, Dictated}
use Rattle.dictation.proofs.Cuts.{Row, row_end, row_more, row_passes}
use Rattle.whole.specs.Whole.{frame_rows, frame_reply, frame, take_rows, take_reply, taken_on, take}
use Rattle.whole.specs.Laws.{frame_begins, frame_ends}
use Rattle.desk.proofs.Turned.{through}
use Rattle.whole.proofs.Accepted.{frame_accepted, take_accepted}
use Rattle.whole.proofs.Behind.{by_reply, let_in_range}
use Rattle.whole.proofs.Dictations.{take_row}
use Rattle.whole.proofs.Halves.{two_halves, refused_is}

-- ---- the rows of a table

numbered : (n : ℕ) (t : Bool) → passed (n refusedIf t) ≡ false → SmallSeven (n refusedIf t)
numbered = by_number SmallSeven (λ _. tt)

module _ (rec : Record) (model : List ℕ) where
  modelled : passed (checked (counted rec.hearing) (read_of model)) ≡ false
      → SmallSeven (checked (counted rec.hearing) (read_of model))
  modelled = by_model rec.hearing model SmallSeven (λ _. tt) (λ n l e. let r = refused_in model e in (r.1, r.2))

-- ---- a frame

module _ (n side : ℕ) (rec : Record) (store samples : List Float) (model : List ℕ) where
  module _ (out : ℕ) where
    abbrev reply : Reply
    reply = frame_reply n side rec (length store) samples model out

    abbrev one : Effect Answer
    one = frame_begins n side rec store samples

    abbrev asked : Ask
    asked = second_half (logs_of (first_in one.written)) model out

    abbrev two : Effect Answer
    two = frame_ends n side rec store samples model out

    -- what holds of its second half, where no test refuses it, and of a refusal, holds of a frame
    frame_by : (P : Effect Answer → Type 0) → (passed reply ≡ true → P two)
        → (passed reply ≡ false → P (refusal (record { reply = reply; rec = rec }) store))
        → P (frame n side rec store samples model out)
    frame_by P done bad = go (passed reply) refl
      where
        go : (t : Bool) → passed reply ≡ t → P (frame n side rec store samples model out)
        go true e = rw (two_halves n side rec store samples model out e).2 (done e)
        go false e = rw (refused_is n side rec store samples model out e) (bad e)

    reply_small : SmallSeven reply
    unfolding frame_reply
    reply_small =
        let number = gate n side rec (length store) 1 in
        let lengths : List (ℕ × ℕ) = (length samples, 480) ∷ (out, 480) ∷ [] in
        by_each SmallSeven (number refusedIf not (eqb number 0) ∷ frame_rows rec samples model out) (
          numbered number (not (eqb number 0)),
          (numbered 5 (wrong lengths), (modelled rec model, (numbered 9 (not (good samples)), tt))),
        ) (λ _. tt)

    pub frame_small : SmallSeven (frame n side rec store samples model out).answer.reply
    frame_small =
        frame_by (λ o. SmallSeven o.answer.reply) (λ _. small n side one.answer.rec one.kept asked)
        (λ _. reply_small)

    pub frame_range : passed (frame n side rec store samples model out).answer.reply ≡ true
        → (in_range rec ≡ true) × (in_range (frame n side rec store samples model out).answer.rec ≡ true)
    frame_range =
        frame_by (λ o. passed o.answer.reply ≡ true → (in_range rec ≡ true) × (in_range o.answer.rec ≡ true))
        (λ p q.
        let k = frame_accepted n side rec store samples model out p in (
          let_in_range n side rec (length store) 1 k.gated,
          (range_kept n side one.answer.rec one.kept asked q).1,
        ))
        (λ f q. absurd (false≢true (sym f ∙ q)))

    -- and its side is one of the benches
    pub frame_seated : passed (frame n side rec store samples model out).answer.reply ≡ true → side < n
    frame_seated =
        frame_by (λ o. passed o.answer.reply ≡ true → side < n)
        (λ p _. (through n side rec (length store) 1 (frame_accepted n side rec store samples model out p).gated).0)
        (λ f q. absurd (false≢true (sym f ∙ q)))

    pub frame_buffers : length (frame n side rec store samples model out).written
        ≡ cond (passed (frame n side rec store samples model out).answer.reply) 1 0
    frame_buffers =
        frame_by (λ o. length o.written ≡ cond (passed o.answer.reply) 1 0)
        (λ _. buffers n side one.answer.rec one.kept asked) (λ f. rw f)

  pub frame_no_out : passed (frame n side rec store samples model 0).answer.reply ≡ false
  frame_no_out =
      frame_by 0 (λ o. passed o.answer.reply ≡ false)
      (λ p. let k = frame_accepted n side rec store samples model 0 p in absurd (omega (arith, k.room))) (λ f. f)

-- ---- a take

-- along the resumes of a piece records stay in range
row_range : {n side : ℕ} {samples : List Float} {room : ℕ} {o : Effect Answer} {lent : List Lent} {d : Dictated}
    → Row n side samples room o lent d
    → in_range o.answer.rec ≡ true → in_range d.rec ≡ true
row_range (row_end p) r = r
row_range {n = n} {side = side} (row_more {o = o} p e more) r =
    row_range more (rw e (range_kept n side o.answer.rec o.kept _ (rw e at (row_passes more))).1)

module _ (n side : ℕ) (samples : List Float) (model : List ℕ) (rec : Record) (store : List Float)
    (out answers : ℕ) where
  abbrev taken : Reply
  taken = take_reply n side rec store samples model out answers

  -- what holds of its dictation, where no test refuses it, and of a refusal, holds of a take
  pub take_by : (P : Effect Answer → Type 0)
      → (passed (take_reply n side rec store samples model out answers) ≡ true
      → P (placed side store (taken_on rec (get (share_of side) store) samples model)))
      → (passed (take_reply n side rec store samples model out answers) ≡ false
      → P (refusal (record { reply = take_reply n side rec store samples model out answers; rec = rec }) store))
      → P (take n side rec store samples model out answers)
  unfolding take
  take_by = by_reply taken side rec store (taken_on rec (get (share_of side) store) samples model)

  taken_small : SmallSeven taken
  unfolding take_reply
  taken_small =
      let number = gate n side rec (length store) PIECE in
      let room = leb (3 * completes rec.waiting (length samples)) answers in
      let all = waiting_in rec.waiting (get (share_of side) store) ++ samples in
      by_each SmallSeven (number refusedIf not (eqb number 0)
      ∷ take_rows rec (get (share_of side) store) samples model out answers) (
        numbered number (not (eqb number 0)),
        (
          numbered 5 (not (piece_fits rec.waiting (length samples) out 22)),
          (numbered 5 (not room), (modelled rec model, (numbered 9 (not (good all)), tt))),
        ),
      )
      (λ _. tt)

  pub take_small : SmallSeven (take n side rec store samples model out answers).answer.reply
  take_small = take_by (λ o. SmallSeven o.answer.reply) (λ _. tt) (λ _. taken_small)

  pub take_range : passed (take n side rec store samples model out answers).answer.reply ≡ true
      → (in_range rec ≡ true) × (in_range (take n side rec store samples model out answers).answer.rec ≡ true)
  take_range =
      take_by (λ o. passed o.answer.reply ≡ true → (in_range rec ≡ true) × (in_range o.answer.rec ≡ true))
      (λ p _.
      let r = take_row n side rec store samples model out answers p in
      let k = range_kept n side rec store (piece samples out 22) (row_passes r) in
      (k.0, row_range r k.1))
      (λ f q. absurd (false≢true (sym f ∙ q)))

  pub take_seated : passed (take n side rec store samples model out answers).answer.reply ≡ true → side < n
  take_seated =
      take_by (λ o. passed o.answer.reply ≡ true → side < n)
      (λ p _. (through n side rec (length store) PIECE
      (take_accepted n side rec store samples model out answers p).gated).0)
      (λ f q. absurd (false≢true (sym f ∙ q)))

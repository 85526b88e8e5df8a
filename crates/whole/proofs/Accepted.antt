-- What is known of a call that none of the tests refused.
--     Frame, frame_accepted, frame_known  a frame
--     Take, take_accepted, take_known  a take; fits_sizes, its numbers
--     good_bad, good_rest, good_both   samples behind others: whether all are good; logs_length, of our logarithms
-- Assumes nothing.
use Rattle.std.specs.Prelude.{◌*◌, ◌≤◌, ◌&&◌, ◌∷◌, ◌++◌, ◌≡◌}
use Rattle.rules.proofs.Common.{ℕ, Bool, true, false, not, true≢false, false≢true, List, []}
use Rattle.rules.proofs.Common.{refl, sym, ap, ◌∙◌, eqb, leb}
use Rattle.rules.proofs.Common.{length, Float}
use borrow.Author.Tests.{eqb-true, leb-true}
use Rattle.rules.specs.Place.{get}
use Rattle.rules.proofs.Refusals.{right}
use Rattle.rules.proofs.Lists.{length_tab}
use Rattle.rules.proofs.Tests.{both}
use Rattle.samples.specs.Samples.{good_sample, good}
use Rattle.logs.specs.Log10.{logs_of}
use Rattle.model.specs.Model.{read_of}
use Rattle.frame.specs.Reply.{Reply}
use Rattle.frame.specs.Reply.{passed, ◌refusedIf◌}
use Rattle.frame.specs.Frame.{counted, checked}
use Rattle.frame.proofs.Tables.{cleared, not_when}
use Rattle.pieces.specs.Pieces.{waiting_in, completes, piece_fits}
use Rattle.pieces.proofs.Tested.{not-not}
use Rattle.desk.specs.declared.Record.{Record}
use Rattle.desk.specs.Gate.{PIECE, gate, share_of}
use Rattle.whole.specs.Whole.{frame_rows, frame_reply, take_rows, take_reply}

-- ---- good samples behind others

pub good_bad : (xs ys : List Float) → good xs ≡ false → good (xs ++ ys) ≡ false
unfolding good
good_bad [] ys e = absurd (true≢false e)
good_bad (x ∷ xs) ys e = go (good_sample x) e (good_bad xs ys)
  where
    go : (t : Bool) → (t && good xs) ≡ false → (good xs ≡ false → good (xs ++ ys) ≡ false)
        → (t && good (xs ++ ys)) ≡ false
    go true e f = f e
    go false e f = refl

pub good_rest : (xs ys : List Float) → good xs ≡ true → good (xs ++ ys) ≡ good ys
unfolding good
good_rest [] ys e = refl
good_rest (x ∷ xs) ys e = let b = both (good_sample x) (good xs) e in rw b.0 (good_rest xs ys b.1)

pub good_both : (xs ys : List Float) → good (xs ++ ys) ≡ true → (good xs ≡ true) × (good ys ≡ true)
good_both xs ys e = go (good xs) refl
  where
    go : (t : Bool) → good xs ≡ t → (good xs ≡ true) × (good ys ≡ true)
    go true h = (h, sym (good_rest xs ys h) ∙ e)
    go false h = absurd (false≢true (sym (good_bad xs ys h) ∙ e))

-- our logarithms are as many as a frame is lent
pub logs_length : (sums : List Float) → length (logs_of sums) ≡ 22
unfolding logs_of
logs_length sums = length_tab 22 _

-- ---- a frame

pub record Frame (n side : ℕ) (rec : Record) (store samples : List Float) (model : List ℕ) (out : ℕ) : Type 0 where
  pub gated : gate n side rec (length store) 1 ≡ 0
  pub size : length samples ≡ 480
  pub room : out ≡ 480
  pub right : passed (checked (counted rec.hearing) (read_of model)) ≡ true
  pub fine : good samples ≡ true

module _ (n side : ℕ) (rec : Record) (store samples : List Float) (model : List ℕ) (out : ℕ) where
  pub frame_accepted : passed (frame_reply n side rec (length store) samples model out) ≡ true
      → Frame n side rec store samples model out
  unfolding frame_reply
  frame_accepted p =
      let number = gate n side rec (length store) 1 in
      let c = cleared (number refusedIf not (eqb number 0) ∷ frame_rows rec samples model out) p in
      let l = right ((length samples, 480) ∷ (out, 480) ∷ []) (not_when 5 _ c.1.0) in
      record {
        gated = eqb-true _ 0 (not-not _ _ c.0);
        size = l.0;
        room = l.1.0;
        right = c.1.1.0;
        fine = not-not 9 _ c.1.1.1.0;
      }

  pub frame_known : {r : Reply} → r ≡ frame_reply n side rec (length store) samples model out → passed r ≡ true
      → Frame n side rec store samples model out
  frame_known e p = frame_accepted (ap passed (sym e) ∙ p)

-- ---- a take

pub record Take (n side : ℕ) (rec : Record) (store samples : List Float) (model : List ℕ)
    (out answers : ℕ) : Type 0 where
  pub gated : gate n side rec (length store) PIECE ≡ 0
  pub fits : piece_fits rec.waiting (length samples) out 22 ≡ true
  pub told : 3 * completes rec.waiting (length samples) ≤ answers
  pub right : passed (checked (counted rec.hearing) (read_of model)) ≡ true
  pub fine : good (waiting_in rec.waiting (get (share_of side) store) ++ samples) ≡ true

module _ (n side : ℕ) (rec : Record) (store samples : List Float) (model : List ℕ) (out answers : ℕ) where
  pub take_accepted : passed (take_reply n side rec store samples model out answers) ≡ true
      → Take n side rec store samples model out answers
  unfolding take_reply
  take_accepted p =
      let number = gate n side rec (length store) PIECE in
      let c =
      cleared (number refusedIf not (eqb number 0) ∷ take_rows rec (get (share_of side) store) samples model out
      answers)
      p in
      record {
        gated = eqb-true _ 0 (not-not _ _ c.0);
        fits = not-not 5 _ c.1.0;
        told = leb-true _ answers (not-not 5 _ c.1.1.0);
        right = c.1.1.1.0;
        fine = not-not 9 _ c.1.1.1.1.0;
      }

  pub take_known : {r : Reply} → r ≡ take_reply n side rec store samples model out answers → passed r ≡ true
      → Take n side rec store samples model out answers
  take_known e p = take_accepted (ap passed (sym e) ∙ p)

-- the numbers of a piece that fits
pub fits_sizes : (waiting size out sums : ℕ) → piece_fits waiting size out sums ≡ true
    → (waiting ≤ 479) × (1 ≤ size) × (size ≤ 4096) × (480 * completes waiting size ≤ out)
unfolding piece_fits
fits_sizes waiting size out sums e =
    let p = both (leb waiting 479) _ e in
    let q = both (leb 1 size) _ p.1 in
    let r = both (leb size 4096) _ q.1 in
    let s = both (leb (480 * completes waiting size) out) _ r.1 in
    (leb-true waiting 479 p.0, leb-true 1 size q.0, leb-true size 4096 r.0, leb-true _ out s.0)

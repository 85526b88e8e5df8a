-- A take and the desk's own calls.
--     dictates, take_row            a piece that is resumed to its end with our logarithms
--     take_fills                    how much it hands out
--     answers_length, answers_both  the answers of frames in a row
-- Assumes nothing.
use Rattle.std.specs.Prelude.{◌*◌, ◌∷◌, ◌++◌, ◌≡◌}
use Rattle.rules.proofs.Common.{ℕ, zero, suc, Bool, true, false, cond, false≢true, List, [], refl}
use Rattle.rules.proofs.Common.{sym, ap, ◌∙◌, length, replicate}
use Rattle.rules.proofs.Common.{length-append, Float}
use native.Mathlib.Omega.{arith}
use mathlib.Core.List.{append_assoc}
use borrow.Author.Tests.{eqb-true, not-false}
use lib.ListN.{length-replicate}
use Rattle.rules.specs.F32.{zeros}
use Rattle.rules.specs.Place.{get}
use Rattle.model.specs.Model.{read_of}
use Rattle.model.specs.declared.Model.{Model}
use Rattle.model.specs.Reading.{Reading, Good, Refused as Unread}
use Rattle.frame.specs.Reply.{Reply}
use Rattle.frame.specs.Reply.{Done, Silent, Heard, Numbered, Refused, Misread}
use Rattle.frame.specs.Frame.{counted, checked}
use Rattle.frame.specs.Reply.{passed}
use Rattle.pieces.specs.Pieces.{waiting_in, completes}
use Rattle.desk.specs.declared.Record.{Record}
use Rattle.desk.specs.Gate.{PIECE, is_due, gate, share_of}
use Rattle.desk.specs.Desk.{piece, desk}
use Rattle.desk.specs.Surface.{heard_of}
use Rattle.desk.proofs.Turned.{none, through}
use Rattle.dictation.specs.Dictation.{Lent, Told, dictate, dictated_on, dictated}
use Rattle.dictation.specs.Resuming.{Fitting}
use Rattle.dictation.proofs.Cuts.{Row, fills_front, in_a_row}
use Rattle.dictation.proofs.Resumes.{comes_to_its_end, accepts}
use Rattle.whole.specs.Whole.{our_lent, take_reply, lent_to_each, answers_of}
use Rattle.whole.specs.Laws.{Dictates}
use Rattle.whole.proofs.Accepted.{good_both, logs_length, take_accepted, fits_sizes}
use Rattle.whole.proofs.Behind.{let_in_range}

-- what a take lends fits each frame
fitting : (rec : Record) (model : List ℕ) → checked (counted rec.hearing) (read_of model) ≡ Done → (m : ℕ)
    → Fitting rec (replicate m (our_lent model))
fitting rec model e zero = tt
fitting rec model e (suc m) = (logs_length, e, fitting rec model e m)

-- a model that passes
is_done : (same : Model → Bool) (r : Reading) → passed (checked same r) ≡ true → checked same r ≡ Done
unfolding checked
is_done same (Unread m l) e = absurd (false≢true e)
is_done same (Good m) e = go (same m) e
  where
    go : (t : Bool) → passed (cond t Done (Refused 8)) ≡ true → cond t Done (Refused 8) ≡ Done
    go true e = refl
    go false e = absurd (false≢true e)

first_due : (n side : ℕ) (rec : Record) (len : ℕ) → gate n side rec len PIECE ≡ 0 → rec.due ≡ 1
unfolding is_due
first_due n side rec len z = eqb-true rec.due 1 (not-false _ (none n side rec len PIECE z).1.1.1.1.0)

pub dictates : Dictates
dictates n side rec store samples model held answers p =
    let k = take_accepted n side rec store samples model (length held) answers p in
    let m = completes rec.waiting (length samples) in
    let t = through n side rec (length store) PIECE k.gated in
    let f = fits_sizes rec.waiting (length samples) (length held) 22 k.fits in
    let g = good_both (waiting_in rec.waiting (get (share_of side) store)) samples k.fine in
    let begun =
    accepts n side rec store samples held t.0 t.1 (let_in_range n side rec (length store) PIECE k.gated)
    (first_due n side rec (length store) k.gated) f.1 f.2 f.3 g.0 g.1 in
    comes_to_its_end n side rec store samples held (lent_to_each rec samples model) (ap passed begun)
    (length-replicate m _)
    (fitting rec model (is_done (counted rec.hearing) (read_of model) k.right) m)

module _ (n side : ℕ) (rec : Record) (store samples : List Float) (model : List ℕ) (out answers : ℕ)
    (p : passed (take_reply n side rec store samples model out answers) ≡ true) where
  -- an output of so many places
  abbrev held : List Float
  held = zeros out

  places : length (zeros out) ≡ out
  places = length-replicate out _

  accepted : passed (take_reply n side rec store samples model (length (zeros out)) answers) ≡ true
  accepted = rw places p

  pub take_row : Row n side samples out (desk n side rec store (piece samples out 22)) (lent_to_each rec samples model)
      (dictated side rec store samples (lent_to_each rec samples model))
  take_row =
      let d = dictates n side rec store samples model held answers accepted in
      rw places at (in_a_row n side rec store samples held (lent_to_each rec samples model) d.0 d.1)

  out_fills : length (dictated_on rec (get (share_of side) store) samples (lent_to_each rec samples model)).out
      ≡ 480 * completes rec.waiting (length samples)
  out_fills =
      let d = dictates n side rec store samples model held answers accepted in
      let f = fills_front n side rec store samples held (lent_to_each rec samples model) d.0 d.1 in
      f.1 ∙ ap (λ (k : ℕ). 480 * k) f.0

-- ---- three answers of each frame, in a row

pub three_long : (r : Reply) → length (heard_of r) ≡ 3
three_long Done = refl
three_long Silent = refl
three_long (Heard v e) = refl
three_long (Numbered f h) = refl
three_long (Refused m) = refl
three_long (Misread m l) = refl

pub answers_length : (told : List Told) → length (answers_of told) ≡ 3 * length told
answers_length [] = refl
answers_length (f ∷ fs) =
    omega (arith, length-append (heard_of f.1) (answers_of fs), three_long f.1, answers_length fs)

pub answers_both : (fs gs : List Told) → answers_of (fs ++ gs) ≡ answers_of fs ++ answers_of gs
answers_both [] gs = refl
answers_both (f ∷ fs) gs =
    ap (λ (x : List Float). heard_of f.1 ++ x) (answers_both fs gs)
    ∙ sym (append_assoc (heard_of f.1) (answers_of fs) (answers_of gs))

-- each frame is told of
told_length : (lent : List Lent) (rec : Record) (share xs : List Float)
    → length (dictate rec share xs lent).told ≡ length lent
unfolding dictate
told_length [] rec share xs = refl
told_length (l ∷ more) rec share xs = ap suc (told_length more _ _ _)

-- 480 samples and three answers of each frame
pub take_fills : (n side : ℕ) (rec : Record) (store samples : List Float) (model : List ℕ) (out answers : ℕ)
    → passed (take_reply n side rec store samples model out answers) ≡ true
    → let d = dictated_on rec (get (share_of side) store) samples (lent_to_each rec samples model) in let k =
    completes rec.waiting (length samples) in
    (length d.out ≡ 480 * k) × (length (answers_of d.told) ≡ 3 * k)
take_fills n side rec store samples model out answers p =
    let share = get (share_of side) store in
    let lent = lent_to_each rec samples model in
    let d = dictated_on rec share samples lent in (
      out_fills n side rec store samples model out answers p,
      answers_length d.told
          ∙ ap (λ (k : ℕ). 3 * k) (told_length lent rec share (waiting_in rec.waiting share ++ samples)
          ∙ length-replicate (completes rec.waiting (length samples)) _),
    )

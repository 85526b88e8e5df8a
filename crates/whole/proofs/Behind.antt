-- A call after its table of refusals, as the code has it.
--     by_reply                 what holds of a refusal, and of what is done on the share, holds of the call
--     lent, lent_is            the side's share, as the code lends it
--     refused, done_there      a call that is refused, and one that is not
--     frame_ready, take_ready  what the code asks of a frame and of a dictation
-- Assumes nothing.
use Rattle.std.specs.Prelude.{◌+◌, ◌-◌, ◌*◌, ◌≡◌}
use Rattle.rules.proofs.Common.{ℕ, Bool, true, false, cond, List, refl, ap, length, Float}
use native.Mathlib.Nat.{add-sub_cancel_left}
use native.Mathlib.Omega.{arith}
use borrow.Author.Tests.{not-false}
use Rattle.rules.specs.Place.{Place, get, put}
use Rattle.rules.proofs.Places.{length_get}
use Rattle.samples.specs.Samples.{good}
use Rattle.model.specs.Model.{read_of}
use Rattle.frame.specs.Effect.{Effect, refusal, Worked}
use Rattle.frame.specs.Reply.{Reply}
use Rattle.frame.specs.Frame.{counted, checked}
use Rattle.frame.specs.Reply.{passed}
use Rattle.frame.specs.Share.{SHARE}
use Rattle.pieces.specs.Pieces.{completes}
use Rattle.desk.specs.Answer.{Answer}
use Rattle.desk.specs.declared.Record.{Record}
use Rattle.desk.specs.Gate.{PIECE, gate, in_range, share_of}
use Rattle.desk.specs.Laws.{placed}
use Rattle.desk.proofs.Ranged.{bounded}
use Rattle.desk.proofs.Turned.{none, through}
use Rattle.whole.specs.Whole.{unless_refused}
use Rattle.whole.specs.Private.{Fit, Ready}
use Rattle.whole.proofs.Accepted.{Frame, Take, fits_sizes}

pub by_reply : (reply : Reply) (side : ℕ) (rec : Record) (store : List Float) (o : Effect Answer)
    (P : Effect Answer → Type 0)
    → (passed reply ≡ true → P (placed side store o))
    → (passed reply ≡ false → P (refusal (record { reply = reply; rec = rec }) store))
    → P (unless_refused reply side rec store o)
by_reply reply side rec store o P done bad = go (passed reply) refl
  where
    go : (t : Bool) → passed reply ≡ t
        → P (cond t (placed side store o) (refusal (record { reply = reply; rec = rec }) store))
    go true e = done e
    go false e = bad e

-- the gate lets no other record through
pub let_in_range : (n side : ℕ) (rec : Record) (len call : ℕ) → gate n side rec len call ≡ 0 → in_range rec ≡ true
let_in_range n side rec len call e = not-false (in_range rec) (none n side rec len call e).1.1.0

abbrev pub lent : ℕ → Place
lent side = record { at = side * SHARE; size = side * SHARE + SHARE - side * SHARE }

pub lent_is : (side : ℕ) → lent side ≡ share_of side
lent_is side = ap (λ (m : ℕ). record { at = side * SHARE; size = m }) (add-sub_cancel_left (side * SHARE) SHARE)

module _ (reply : Reply) (side : ℕ) (rec : Record) (store : List Float) (work : List Float → Effect Answer) {r : Reply}
    (e : r ≡ reply) where
  pub refused : passed r ≡ false → {held : List (List Float)}
      → Worked (unless_refused reply side rec store (work (get (share_of side) store)))
      (record { reply = r; rec = rec }) store held held
  refused p = rw (← e, p) (record { answers = refl; keeps = refl; writes = refl })

  pub done_there : passed r ≡ true → {a : Answer} {part : List Float} {held held' : List (List Float)}
      → Worked (work (get (lent side) store)) a part held held'
      → Worked (unless_refused reply side rec store (work (get (share_of side) store))) a
      (put (lent side) store part) held held'
  done_there p w =
      let v = rw (lent_is side) at w in
      rw (← e, p, lent_is side)
      (record { answers = v.answers; keeps = ap (put (share_of side) store) v.keeps; writes = v.writes })

module _ (n side : ℕ) (rec : Record) (store samples : List Float) (model : List ℕ) where
  fit : (call : ℕ) → gate n side rec (length store) call ≡ 0
      → passed (checked (counted rec.hearing) (read_of model)) ≡ true → Fit rec (get (lent side) store) model
  fit call z right =
      let t = through n side rec (length store) call z in
      rw (lent_is side)
      (record {
        whole = length_get (share_of side) store (omega arith);
        index = (bounded rec (let_in_range n side rec (length store) call z)).index;
        right = right;
      })

  pub frame_ready : {out : ℕ} → Frame n side rec store samples model out
      → Fit rec (get (lent side) store) model × ((length samples ≡ 480) × (good samples ≡ true) × (out ≡ 480))
  frame_ready k = (fit 1 k.gated k.right, (k.size, k.fine, k.room))

  pub take_ready : {out answers : ℕ} → Take n side rec store samples model out answers
      → Fit rec (get (lent side) store) model
      × Ready rec.waiting (get (lent side) store) samples (completes rec.waiting (length samples)) out answers
  take_ready {out} k =
      let s = fits_sizes rec.waiting (length samples) out 22 k.fits in (
        fit PIECE k.gated k.right,
        rw (lent_is side)
            (record { few = s.0; short = s.2; enough = omega arith; room = s.3; places = k.told; fine = k.fine }),
      )

-- What a call keeps.
--     admitted_kept    a share's length; and, refused, the share
--     refused_keeps    refused, the record and the store
-- Assumes nothing.
use Rattle.std.specs.Prelude.{◌≡◌}
use Rattle.rules.proofs.Common.{ℕ, false, true≢false, List, refl, sym, ap, ◌∙◌, length, Float}
use native.Mathlib.Omega.{arith}
use Rattle.rules.specs.Place.{get, put}
use Rattle.rules.proofs.Places.{put_get, length_get, length_put}
use Rattle.model.specs.Model.{read_of}
use Rattle.model.specs.Reading.{Reading, Good, Refused as Unread}
use Rattle.frame.specs.Share.{SHARE}
use Rattle.frame.specs.Effect.{Effect}
use Rattle.frame.specs.Reply.{passed}
use Rattle.frame.specs.Reply.{Reply}
use Rattle.frame.proofs.Keeps.{Keeps, call1_keeps, call2_keeps, call3_keeps, call4_keeps}
use Rattle.halves.proofs.Kept.{first_half_keeps, second_half_keeps}
use Rattle.halves.proofs.Sister.{call2_own_keeps}
use Rattle.pieces.specs.Pieces.{frame_part, in_part}
use Rattle.pieces.proofs.Kept.{piece_kept, resume_kept}
use Rattle.desk.specs.declared.Record.{Record}
use Rattle.desk.specs.Gate.{share_of, gate}
use Rattle.desk.specs.Desk.{Ask, opening, call1, call2, call2_own, call3, call4, first_half, second_half, piece}
use Rattle.desk.specs.Desk.{resume, call_of, opened, on_share, admitted, desk}
use Rattle.desk.specs.Laws.{RefusedKeeps}
use Rattle.desk.proofs.Answered.{done_alike, admitted_by}

-- what a call keeps of a share of the right length: its length; and, refused, all of it
pub record Kept (share : List Float) (f : Effect Reply) : Type 0 where
  pub size : length share ≡ SHARE → length f.kept ≡ SHARE
  pub still : passed f.answer ≡ false → f.kept ≡ share

module _ (b : Record) (share : List Float) where
  opened_kept : (m : Reading) → Kept share (opened share m)
  opened_kept (Good m) = record { size = λ _. refl; still = λ e. absurd (true≢false e) }
  opened_kept (Unread n l) = record { size = λ h. h; still = λ _. refl }

  abbrev part : List Float
  part = get frame_part share

  frame_kept : {f : Effect Reply} → Keeps part f → Kept share (in_part share f)
  frame_kept {f} k =
      record {
        size =
            λ l. length_put frame_part share f.kept (omega arith) (k.size ∙ length_get frame_part share (omega arith))
            ∙ l;
        still = λ e. ap (put frame_part share) (k.still e) ∙ put_get frame_part share;
      }

  pub admitted_kept : (ask : Ask) (number : ℕ) → Kept share (admitted b share ask number)
  admitted_kept ask number =
      admitted_by b ask share number (Kept share) (record { size = λ h. h; still = λ _. refl }) (λ _. kept ask)
    where
      kept : (a : Ask) → Kept share (on_share b share a)
      kept (opening w m) = opened_kept (read_of m)
      kept (call1 x w) = frame_kept (call1_keeps part x w)
      kept (call2 x l w s) = frame_kept (call2_keeps part x l w s)
      kept (call2_own x w s) = frame_kept (call2_own_keeps part x w s)
      kept (call3 x l m o) = frame_kept (call3_keeps part b.hearing x l m o)
      kept (call4 x o) = frame_kept (call4_keeps part x o)
      kept (first_half x s) = frame_kept (first_half_keeps part b.hearing.way x s)
      kept (second_half l m o) = frame_kept (second_half_keeps part b.hearing l m o)
      kept (piece x o s) = let k = piece_kept share b.hearing.way b.waiting x o s in
          record { size = k.size; still = k.still }
      kept (resume x l m o s) =
          let k = resume_kept share b.hearing b.piece b.progress x l m o s in
          record { size = k.size; still = k.still }

pub refused_keeps : RefusedKeeps
unfolding desk
refused_keeps n side b store ask e =
    let number = gate n side b (length store) (call_of ask) in
    let share = get (share_of side) store in
    let no = sym (done_alike b ask (admitted b share ask number).answer) ∙ e in (
      rw no,
      ap (put (share_of side) store) ((admitted_kept b share ask number).still no)
          ∙ put_get (share_of side) store,
    )

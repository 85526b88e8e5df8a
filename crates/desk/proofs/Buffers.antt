-- A call writes to each answer buffer that it is lent, or is refused and writes to none (`buffers`). Assumes nothing.
use Rattle.std.specs.Prelude.{◌-◌, ◌*◌, ◌++◌, ◌≡◌}
use Rattle.rules.proofs.Common.{ℕ, Bool, true, false, cond, List, [], refl, ltb, length, drop}
use Rattle.rules.proofs.Common.{Float}
use Rattle.rules.specs.Place.{get, put}
use Rattle.frame.specs.Written.{Written, from, nothing, first_in}
use Rattle.model.specs.Model.{read_of}
use Rattle.model.specs.Reading.{Reading, Good, Refused as Unread}
use Rattle.frame.specs.Reply.{Reply}
use Rattle.frame.specs.Reply.{Done}
use Rattle.frame.specs.declared.Way.{Way}
use Rattle.frame.specs.Reply.{passed}
use Rattle.frame.specs.Effect.{Effect}
use Rattle.frame.proofs.Cases.{call1_by, call2_by, call3_by, call4_by}
use Rattle.halves.specs.Halves as halves
use Rattle.halves.proofs.Cases.{first_half_by, second_half_by}
use Rattle.halves.proofs.Sister.{call2_own_by}
use Rattle.pieces.specs.Pieces.{frame_part, waiting_in, waits, frame_at, at_end, paused, further}
use Rattle.pieces.proofs.Cases.{piece_by, resume_by}
use Rattle.pieces.proofs.Halved.{second_passes}
use Rattle.pieces.proofs.Shares.{part_length}
use Rattle.desk.specs.declared.Record.{Record}
use Rattle.desk.specs.Gate.{gate, share_of}
use Rattle.desk.specs.Desk.{Ask, opening, call1, call2, call2_own, call3, call4, first_half, second_half, piece}
use Rattle.desk.specs.Desk.{resume, call_of, opened, on_share, admitted, desk}
pub use Rattle.desk.specs.Laws.{buffers_of}
use Rattle.desk.specs.Laws.{Buffers}
use Rattle.desk.proofs.Answered.{done_alike, admitted_by}

-- n of them are written to
abbrev Writes : ℕ → Effect Reply → Type 0
Writes n o = length o.written ≡ cond (passed o.answer) n 0

opens : (read : Reading) (share : List Float) → Writes 0 (opened share read)
opens (Good m) share = refl
opens (Unread n l) share = refl

further_two : (reply : Reply) (share : List Float) (way : Way) (rest : List Float) (out : Written) → passed reply ≡ true
    → Writes 2 (further reply share way rest out)
unfolding further
further_two reply share way rest out p = go (ltb (length rest) 480)
  where
    go : (t : Bool) → Writes 2 (cond t (at_end reply share rest out) (paused reply share way rest out))
    go true = rw p
    go false = rw p

module _ (b : Record) (share : List Float) where
  abbrev part : List Float
  part = get frame_part share

  written : (ask : Ask) → Writes (buffers_of ask) (on_share b share ask)
  written (opening w m) = opens (read_of m) share
  written (call1 x w) = call1_by part (Writes 1) (λ _. refl) x w (λ _ _. refl)
  written (call2 x l w s) = call2_by part (Writes 2) (λ _. refl) x l w s (λ _. refl)
  written (call2_own x w s) = call2_own_by part (Writes 2) (λ _. refl) x w s (λ _. refl)
  written (call3 x l m o) =
      call3_by part (Writes 1) (λ _. refl) b.hearing x l m o (λ _ _ _. refl) refl (λ _ _ _ _ _. refl)
  written (call4 x o) = call4_by part (Writes 1) (λ _. refl) x o (λ _. refl)
  written (first_half x s) = first_half_by part (Writes 1) (λ _. refl) b.hearing.way x s (λ _ _. refl)
  written (second_half l m o) =
      second_half_by part (Writes 1) (λ _. refl) b.hearing l m o (λ _ _ _. refl) (λ _. refl) (λ _ _ _ _ _. refl)
  written (piece x o s) =
      piece_by share (Writes 2) (λ _. refl) b.hearing.way b.waiting x o s
      (λ _. further_two Done (waits share []) b.hearing.way (waiting_in b.waiting share ++ x) nothing refl)
  written (resume x l m o s) =
      resume_by share (Writes 2) (λ _. refl) b.hearing b.piece b.progress x l m o s (λ _ _ _. refl)
      (λ k.
      let h = halves.second_half part b.hearing l m 480 in
      let p = second_passes part b.hearing l m (part_length share k.size) k.taken k.inside k.right in
      further_two h.answer (put frame_part share h.kept) b.hearing.way (drop b.progress x)
      (from (480 * (frame_at b.progress - 1)) (first_in h.written)) p.passes)

pub buffers : Buffers
unfolding desk
buffers benches side b store ask =
    let number = gate benches side b (length store) (call_of ask) in
    let share = get (share_of side) store in
    rw (done_alike b ask (admitted b share ask number).answer)
    (admitted_by b ask share number (Writes (buffers_of ask)) refl (λ _. written b share ask))

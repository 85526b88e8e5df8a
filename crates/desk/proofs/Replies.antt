-- What a call may reply.
--     small     a refused model's number is 11 to 22 and its layer 0 to 6, whatever call brings them
--     no_out, no_half_out, no_resume_out    call 3 with no place for its spectrum, and a second half and a resume with
--                                           none for their samples, are refused
-- Assumes nothing.
use Rattle.std.specs.Prelude.{◌-◌, ◌*◌, ◌++◌, ◌≡◌}
use Rattle.rules.proofs.Common.{ℕ, false, List, [], refl, ap, ◌∙◌, length, drop, Float}
use Rattle.rules.specs.Place.{get, put}
use Rattle.frame.specs.Written.{from, nothing, first_in}
use Rattle.model.specs.Model.{read_of}
use Rattle.model.specs.Reading.{Reading, Good, Refused as Unread}
use Rattle.model.proofs.Bounds.{refused_in}
use Rattle.frame.specs.Reply.{Reply}
use Rattle.frame.specs.Reply.{Done, Misread}
use Rattle.frame.specs.Effect.{Effect}
use Rattle.frame.specs.Reply.{passed}
use Rattle.frame.proofs.Done.{call3_no_out}
use Rattle.frame.proofs.Cases.{call1_by, call2_by, call3_by, call4_by}
use Rattle.halves.specs.Halves as halves
use Rattle.halves.proofs.Cases.{first_half_by, second_half_by}
use Rattle.halves.proofs.Onward.{second_half_no_out}
use Rattle.halves.proofs.Sister.{call2_own_by}
use Rattle.pieces.specs.Pieces.{frame_part, waiting_in, waits, frame_at}
use Rattle.pieces.proofs.Cases.{piece_by, resume_by}
use Rattle.pieces.proofs.Kept.{further_reply}
use Rattle.desk.specs.declared.Record.{Record}
use Rattle.desk.specs.Gate.{gate, share_of}
use Rattle.desk.specs.Desk.{Ask, opening, call1, call2, call2_own, call3, call4, first_half, second_half, piece}
use Rattle.desk.specs.Desk.{resume, call_of, opened, on_share, admitted, desk}
pub use Rattle.desk.specs.Laws.{SmallSeven}
use Rattle.desk.specs.Laws.{SmallReplies}
use Rattle.desk.proofs.Answered.{replied_by, done_alike, admitted_by}
use Rattle.desk.proofs.Pieced.{resume_no_out}

misread : (s : List ℕ) (n l : ℕ) → Unread n l ≡ read_of s → SmallSeven (Misread n l)
misread s n l e = let r = refused_in s e in (r.1, r.2)

opens : (s : List ℕ) (read : Reading) (share : List Float) → read ≡ read_of s → SmallSeven (opened share read).answer
opens s (Good m) share e = tt
opens s (Unread n l) share e = misread s n l e

module _ (b : Record) (share : List Float) where
  abbrev SmallOf : Effect Reply → Type 0
  SmallOf f = SmallSeven f.answer

  abbrev part : List Float
  part = get frame_part share

  frames : (ask : Ask) → SmallSeven (on_share b share ask).answer
  frames (opening w m) = opens m (read_of m) share refl
  frames (call1 x w) = call1_by part SmallOf (λ _. tt) x w (λ _ _. tt)
  frames (call2 x l w s) = call2_by part SmallOf (λ _. tt) x l w s (λ _. tt)
  frames (call2_own x w s) = call2_own_by part SmallOf (λ _. tt) x w s (λ _. tt)
  frames (call3 x l m o) = call3_by part SmallOf (λ _. tt) b.hearing x l m o (misread m) tt (λ _ _ _ _ _. tt)
  frames (call4 x o) = call4_by part SmallOf (λ _. tt) x o (λ _. tt)
  frames (first_half x s) = first_half_by part SmallOf (λ _. tt) b.hearing.way x s (λ _ _. tt)
  frames (second_half l m o) =
      second_half_by part SmallOf (λ _. tt) b.hearing l m o (misread m) (λ _. tt) (λ _ _ _ _ _. tt)
  frames (piece x o s) =
      piece_by share SmallOf (λ _. tt) b.hearing.way b.waiting x o s
      (λ _. rw (further_reply Done (waits share []) b.hearing.way (waiting_in b.waiting share ++ x) nothing) tt)
  frames (resume x l m o s) =
      resume_by share SmallOf (λ _. tt) b.hearing b.piece b.progress x l m o s (misread m)
      (λ _.
      let h = halves.second_half part b.hearing l m 480 in
      rw (further_reply h.answer (put frame_part share h.kept) b.hearing.way (drop b.progress x)
      (from (480 * (frame_at b.progress - 1)) (first_in h.written)))
      (second_half_by part SmallOf (λ _. tt) b.hearing l m 480 (misread m) (λ _. tt) (λ _ _ _ _ _. tt)))

pub small : SmallReplies
unfolding desk
small benches side b store ask =
    let number = gate benches side b (length store) (call_of ask) in
    let share = get (share_of side) store in
    replied_by b ask (admitted b share ask number).answer SmallSeven (λ _. tt)
    (admitted_by b ask share number (λ f. SmallSeven f.answer) tt (λ _. frames b share ask))

module _ (benches side : ℕ) (b : Record) (store : List Float) where
  abbrev mine : List Float
  mine = get (share_of side) store

  shut_out : (ask : Ask) → passed (on_share b mine ask).answer ≡ false
      → passed (desk benches side b store ask).answer.reply ≡ false
  unfolding desk
  shut_out ask e =
      let number = gate benches side b (length store) (call_of ask) in
      done_alike b ask (admitted b mine ask number).answer
      ∙ admitted_by b ask mine number (λ f. passed f.answer ≡ false) refl (λ _. e)

  abbrev lent : List Float
  lent = get frame_part mine

  pub no_out : (spectrum logs : List Float) (model : List ℕ)
      → passed (desk benches side b store (call3 spectrum logs model 0)).answer.reply ≡ false
  no_out spectrum logs model =
      shut_out (call3 spectrum logs model 0)
      (ap (λ (f : Effect Reply). passed f.answer) (call3_no_out lent b.hearing spectrum logs model))

  pub no_half_out : (logs : List Float) (model : List ℕ)
      → passed (desk benches side b store (second_half logs model 0)).answer.reply ≡ false
  no_half_out logs model =
      shut_out (second_half logs model 0)
      (ap (λ (f : Effect Reply). passed f.answer) (second_half_no_out lent b.hearing logs model))

  pub no_resume_out : (samples logs : List Float) (model : List ℕ) (sums : ℕ)
      → passed (desk benches side b store (resume samples logs model 0 sums)).answer.reply ≡ false
  no_resume_out samples logs model sums =
      shut_out (resume samples logs model 0 sums)
      (resume_no_out mine b.hearing b.piece b.progress samples logs model sums)

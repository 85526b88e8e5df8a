-- The resume that follows a pause, on a side of a store: it is a frame of the dictation, and then onward with what is
-- left.
--     own_back, own-own     a share that is put on its side is read there, and put anew
--     follows               a resume that is not refused
--     admits                one that no test turns away
-- Assumes nothing.
use Rattle.std.specs.Prelude.{◌+◌, ◌-◌, ◌*◌, ◌≤◌, ◌<◌, ◌≡◌}
use Rattle.rules.proofs.Common.{ℕ, true, List, ◌∙◌, length, drop, Float}
use native.Mathlib.Omega.{arith}
use Rattle.rules.specs.Place.{get, put}
use Rattle.frame.specs.Written.{from, first_in}
use Rattle.rules.proofs.Places.{get_put, put_put}
use Rattle.desk.specs.Answer.{Answer}
use Rattle.frame.specs.Effect.{Effect}
use Rattle.frame.specs.Reply.{passed}
use Rattle.frame.specs.Share.{SHARE, PART}
use Rattle.pieces.specs.Pieces.{frame_part, frame_at}
use Rattle.pieces.proofs.Accepted.{Resume}
use Rattle.pieces.proofs.Halved.{Halved}
use Rattle.pieces.proofs.Shares.{frame_length, frame_back, frame_frame}
use Rattle.desk.specs.declared.Record.{Record}
use Rattle.desk.specs.Gate.{share_of, gate}
use Rattle.desk.specs.Desk.{resume, holding, desk}
use Rattle.dictation.specs.Dictation.{Lent}
use Rattle.dictation.proofs.Joins.{first, its_logs, second, share_after, rec_after, first_part}
use Rattle.dictation.proofs.Taken.{let_through, onward, half_passes, goes, resumed_onward, resume_passed}

-- where the frame under way is written
abbrev pub place : ℕ → ℕ
place progress = 480 * (frame_at progress - 1)

module _ (n side : ℕ) (h : side < n) (store : List Float) (size : length store ≡ n * SHARE) where
  pub own_back : (share : List Float) → length share ≡ SHARE
      → get (share_of side) (put (share_of side) store share) ≡ share
  own_back share k = get_put (share_of side) store share (omega arith) k

  pub own_own : (share : List Float) → length share ≡ SHARE → (new : List Float)
      → put (share_of side) (put (share_of side) store share) new ≡ put (share_of side) store new
  own_own share k new = put_put (share_of side) store share new (omega arith) k

  module _ (samples : List Float) (rec : Record) (share rest : List Float) (l : Lent) (progress room : ℕ)
      (k : length share ≡ SHARE) (same : drop progress samples ≡ drop 480 rest) where
    -- the record and the share at the pause
    abbrev pub rec_here : Record
    rec_here = holding 3 rec 0 (length samples) progress

    abbrev pub share_here : List Float
    share_here = put frame_part share (first rec share rest l).kept

    abbrev store_here : List Float
    store_here = put (share_of side) store share_here

    abbrev pub following : Effect Answer
    following = desk n side rec_here store_here (resume samples (its_logs rec share rest l) l.model room 22)

    abbrev pub next : Effect Answer
    next =
        onward side store (rec_after rec share rest l) (second rec share rest l).answer (share_after rec share rest l)
        (drop 480 rest) (length samples) (progress + 480)
        (from (place progress) (first_in (second rec share rest l).written))

    part : length (first rec share rest l).kept ≡ PART
    part = first_part rec share rest l k

    pub here_length : length share_here ≡ SHARE
    here_length = frame_length share k (first rec share rest l).kept part

    pub back : get (share_of side) store_here ≡ share_here
    back = own_back share_here here_length

    front : get frame_part share_here ≡ (first rec share rest l).kept
    front = frame_back share k (first rec share rest l).kept part

    -- what is known of it, where it is not refused
    abbrev pub Known : Type 0
    Known =
        Resume (get (share_of side) store_here) rec.hearing (length samples) progress samples
        (its_logs rec share rest l) l.model room 22

    pub fits_in : Known → place progress + 480 ≤ room
    fits_in t = omega (arith, t.room, t.begun, t.within)

    pub halved : Known → Halved 480 (second rec share rest l)
    halved t =
        rw (
          back,
          front,
        ) at (half_passes n side rec_here store_here samples (its_logs rec share rest l) l.model room 22 t)

    goes_on : goes n side rec_here store_here samples (its_logs rec share rest l) l.model room 22 ≡ next
    goes_on =
        rw (
          back,
          front,
          frame_frame share k (first rec share rest l).kept part (second rec share rest l).kept,
          same,
          own_own share_here here_length,
        )

    pub follows : passed following.answer.reply ≡ true → Known × (following ≡ next)
    follows p = let t = resume_passed n side rec_here store_here samples (its_logs rec share rest l)
        l.model room 22 p in (t.1, t.2 ∙ goes_on)

    pub admits : gate n side rec_here (length store_here) 6 ≡ 0 → Known → following ≡ next
    admits e t =
        let_through n side rec_here store_here (resume samples (its_logs rec share rest l) l.model room 22) e
        ∙ resumed_onward n side rec_here store_here samples (its_logs rec share rest l) l.model room 22 t
        ∙ goes_on

-- What is known of a call that no test turned away, as one record; and that such a call is what its definition says
-- past the tests.
--     Piece, piece_cleared, piece_accepted, piece_taken         a piece
--     Resume, resume_cleared, resume_accepted, resume_taken     a resume
-- Assumes nothing.
use Rattle.std.specs.Prelude.{◌+◌, ◌-◌, ◌*◌, ◌≤◌, ◌≡◌}
use Rattle.rules.proofs.Common.{ℕ, true, List, eqb, leb, length, Float}
use native.Mathlib.Omega.{arith}
use borrow.Author.Tests.{eqb-true, leb-true, eq-eqb, le-leb}
use Rattle.rules.proofs.Tests.{both}
use Rattle.samples.specs.Samples.{good}
use Rattle.model.specs.Model.{read_of}
use Rattle.frame.specs.declared.Hearing.{Hearing}
use Rattle.frame.specs.declared.Way.{Way}
use Rattle.frame.specs.Share.{SHARE}
use Rattle.frame.specs.Reply.{passed}
use Rattle.frame.specs.Frame.{counted, checked}
use Rattle.frame.proofs.Tables.{Clear, cleared}
use Rattle.pieces.specs.Pieces.{waiting_in, completes, frame_at, waited_of, piece_fits, piece_rows, begun, piece}
use Rattle.pieces.specs.Pieces.{resume_fits, resume_rows, resumed, resume}
use Rattle.pieces.specs.Private.{piece_reply, resume_reply}
use Rattle.pieces.proofs.Tested.{not-not}

-- ---- a piece

pub record Piece (share : List Float) (waiting : ℕ) (samples : List Float) (out sums : ℕ) : Type 0 where
  pub size : length share ≡ SHARE
  pub waits : waiting ≤ 479
  pub some : 1 ≤ length samples
  pub few : length samples ≤ 4096
  pub room : 480 * completes waiting (length samples) ≤ out
  pub places : sums ≡ 22
  pub waited : good (waiting_in waiting share) ≡ true
  pub fine : good samples ≡ true

pub fits_waiting : (waiting size out sums : ℕ) → piece_fits waiting size out sums ≡ true → waiting ≤ 479
unfolding piece_fits
fits_waiting waiting size out sums e = leb-true waiting 479 (both (leb waiting 479) _ e).0

module _ (share : List Float) (waiting : ℕ) (samples : List Float) (out sums : ℕ) where
  pub piece_cleared : Clear (piece_rows share waiting samples out sums) → Piece share waiting samples out sums
  unfolding piece_fits
  piece_cleared c =
      let p = both (leb waiting 479) _ (not-not 5 _ c.1.0) in
      let q = both (leb 1 (length samples)) _ p.1 in
      let r = both (leb (length samples) 4096) _ q.1 in
      let s = both (leb (480 * completes waiting (length samples)) out) _ r.1 in
      record {
        size = eqb-true (length share) SHARE (not-not 5 _ c.0);
        waits = leb-true waiting 479 p.0;
        some = leb-true 1 (length samples) q.0;
        few = leb-true (length samples) 4096 r.0;
        room = leb-true _ out s.0;
        places = eqb-true sums 22 s.1;
        waited = not-not 9 _ c.1.1.0;
        fine = not-not 9 _ c.1.1.1.0;
      }

  pub piece_accepted : passed (piece_reply share waiting samples out sums) ≡ true → Piece share waiting samples out sums
  unfolding piece_reply
  piece_accepted e = piece_cleared (cleared (piece_rows share waiting samples out sums) e)

  fits : Piece share waiting samples out sums → piece_fits waiting (length samples) out sums ≡ true
  unfolding piece_fits
  fits k =
      rw (
        le-leb waiting 479 k.waits,
        le-leb 1 (length samples) k.some,
        le-leb (length samples) 4096 k.few,
        le-leb _ out k.room,
        eq-eqb sums 22 k.places,
      )

module _ (share : List Float) (way : Way) (waiting : ℕ) (samples : List Float) (out sums : ℕ) where
  pub piece_taken : Piece share waiting samples out sums
      → piece share way waiting samples out sums ≡ begun share way waiting samples
  unfolding piece
  piece_taken k = rw (eq-eqb (length share) SHARE k.size, fits share waiting samples out sums k, k.waited, k.fine)

-- ---- a resume

pub record Resume (share : List Float) (hearing : Hearing) (noted progress : ℕ) (samples logs : List Float)
    (model : List ℕ) (out sums : ℕ) : Type 0 where
  pub size : length share ≡ SHARE
  pub inside : hearing.index ≤ 7
  pub begun : 1 ≤ progress
  pub within : progress ≤ noted
  pub few : noted ≤ 4096
  pub same : length samples ≡ noted
  pub taken : length logs ≡ 22
  pub room : 480 * completes (waited_of progress) (length samples) ≤ out
  pub places : sums ≡ 22
  pub right : passed (checked (counted hearing) (read_of model)) ≡ true
  pub fine : good samples ≡ true

module _ (share : List Float) (hearing : Hearing) (noted progress : ℕ) (samples logs : List Float) (model : List ℕ)
    (out sums : ℕ) where
  pub resume_cleared : Clear (resume_rows share hearing noted progress samples logs model out sums)
      → Resume share hearing noted progress samples logs model out sums
  unfolding resume_fits
  resume_cleared c =
      let p = both (leb hearing.index 7) _ (not-not 5 _ c.1.0) in
      let q = both (leb 1 progress) _ p.1 in
      let r = both (leb progress noted) _ q.1 in
      let s = both (leb noted 4096) _ r.1 in
      let t = both (eqb (length samples) noted) _ s.1 in
      let u = both (eqb (length logs) 22) _ t.1 in
      let v = both (leb (480 * completes (waited_of progress) (length samples)) out) _ u.1 in
      record {
        size = eqb-true (length share) SHARE (not-not 5 _ c.0);
        inside = leb-true hearing.index 7 p.0;
        begun = leb-true 1 progress q.0;
        within = leb-true progress noted r.0;
        few = leb-true noted 4096 s.0;
        same = eqb-true (length samples) noted t.0;
        taken = eqb-true (length logs) 22 u.0;
        room = leb-true _ out v.0;
        places = eqb-true sums 22 v.1;
        right = c.1.1.0;
        fine = not-not 9 _ c.1.1.1.0;
      }

  pub resume_accepted : passed (resume_reply share hearing noted progress samples logs model out sums) ≡ true
      → Resume share hearing noted progress samples logs model out sums
  unfolding resume_reply
  resume_accepted e = resume_cleared (cleared (resume_rows share hearing noted progress samples logs model out sums) e)

  -- what is left of the samples, and the place of the frame under way
  pub within_samples : Resume share hearing noted progress samples logs model out sums → progress ≤ length samples
  within_samples k = rw k.same k.within

  pub frame_fits : Resume share hearing noted progress samples logs model out sums
      → 480 * (frame_at progress - 1) + 480 ≤ out
  frame_fits k = omega (arith, k.room, k.same, k.begun, k.within)

  suits : Resume share hearing noted progress samples logs model out sums
      → resume_fits hearing.index noted progress (length samples) (length logs) out sums ≡ true
  unfolding resume_fits
  suits k =
      rw (
        le-leb hearing.index 7 k.inside,
        le-leb 1 progress k.begun,
        le-leb progress noted k.within,
        le-leb noted 4096 k.few,
        eq-eqb (length samples) noted k.same,
        eq-eqb (length logs) 22 k.taken,
        le-leb _ out k.room,
        eq-eqb sums 22 k.places,
      )

  pub resume_taken : Resume share hearing noted progress samples logs model out sums
      → resume share hearing noted progress samples logs model out sums
      ≡ resumed share hearing progress samples logs model
  unfolding resume
  resume_taken k = rw (eq-eqb (length share) SHARE k.size, suits k, k.right, k.fine)

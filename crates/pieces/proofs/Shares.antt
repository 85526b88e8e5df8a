-- The two places of a share: frames work on the one and leave the other alone. Assumes nothing.
--     waits_waits, frame_frame       writing twice
--     frame_waits, waits_frame       the one place, where the other is written
--     waiting_back, frame_back       what was put there is what is read
--     waits_length, frame_length     a share keeps its length
use Rattle.std.specs.Prelude.{◌≤◌, ◌++◌, ◌≡◌}
use Rattle.rules.proofs.Common.{ℕ, List, sym, ◌∙◌, length, take, drop, length-take, Float}
use native.Mathlib.Omega.{arith}
use mathlib.Core.Logic.{inr}
use lib.Seq.{take_at, drop_at}
use Rattle.rules.specs.Place.{get, put}
use Rattle.rules.proofs.Places.{length_get, length_put, get_put, get_put_apart, get_get, put_put}
use Rattle.frame.specs.Share.{SHARE, PART}
use Rattle.pieces.specs.Pieces.{frame_part, waiting_place, waiting_in, padded_to, waits}
pub use Rattle.pieces.proofs.Padding.{length_padded}
use Rattle.pieces.proofs.Padding.{padded_front}

module _ (share : List Float) (l : length share ≡ SHARE) where
  pub part_length : length (get frame_part share) ≡ PART
  part_length = length_get frame_part share (omega arith)

  pub waiting_length : (n : ℕ) → n ≤ 479 → length (waiting_in n share) ≡ n
  waiting_length n h = length_get (waiting_place n) share (omega arith)

  pub waits_length : (xs : List Float) → length (waits share xs) ≡ SHARE
  waits_length xs = length_put (waiting_place 479) share (padded_to 479 xs) (omega arith) (length_padded 479 xs) ∙ l

  pub waits_waits : (xs ys : List Float) → waits (waits share xs) ys ≡ waits share ys
  waits_waits xs ys =
      put_put (waiting_place 479) share (padded_to 479 xs) (padded_to 479 ys) (omega arith) (length_padded 479 xs)

  pub frame_waits : (xs : List Float) → get frame_part (waits share xs) ≡ get frame_part share
  frame_waits xs =
      get_put_apart (waiting_place 479) frame_part share (padded_to 479 xs) (omega arith) (length_padded 479 xs)
      (inr (omega arith))

  -- what waits is read back
  pub waiting_back : (xs : List Float) → length xs ≤ 479 → waiting_in (length xs) (waits share xs) ≡ xs
  waiting_back xs h =
      let whole = get_put (waiting_place 479) share (padded_to 479 xs) (omega arith) (length_padded 479 xs) in
      let inside = get_get (waiting_place 479) (record { at = 0; size = length xs }) (waits share xs)
      (rw (waits_length xs) (omega arith)) (omega arith) in
      sym inside ∙ rw whole (padded_front 479 xs h)

  module _ (p : List Float) (k : length p ≡ PART) where
    pub frame_length : length (put frame_part share p) ≡ SHARE
    frame_length = length_put frame_part share p (omega arith) k ∙ l

    pub frame_back : get frame_part (put frame_part share p) ≡ p
    frame_back = get_put frame_part share p (omega arith) k

    pub frame_frame : (q : List Float) → put frame_part (put frame_part share p) q ≡ put frame_part share q
    frame_frame q = put_put frame_part share p q (omega arith) k

    -- the frame's part and what waits may be written in either order
    pub waits_frame : (xs : List Float) → put frame_part (waits share xs) p ≡ waits (put frame_part share p) xs
    unfolding put
    waits_frame xs =
        let front : length (take PART share) ≡ PART = simp length-take (omega arith) in
        let rest = drop PART share in
        rw (
          drop_at (take PART share) (padded_to 479 xs ++ drop 479 rest) PART front,
          take_at p rest PART k,
          drop_at p rest PART k,
        )

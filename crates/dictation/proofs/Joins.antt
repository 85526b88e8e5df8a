-- Laws of a dictation: that it is blind to what waited in the share before, and that it can be broken off and gone on
-- with. Assumes nothing.
use Rattle.std.specs.Prelude.{◌+◌, ◌*◌, ◌≤◌, ◌<◌, ◌∷◌, ◌++◌, ◌≡◌}
use Rattle.rules.proofs.Common.{ℕ, List, [], refl, length, take, drop, length-drop}
use Rattle.rules.proofs.Common.{Float}
use native.Mathlib.Omega.{arith}
use mathlib.Core.List.{append_assoc}
use lib.Seq.{take-append-le, drop-append-le}
use Rattle.rules.specs.Place.{get, put}
use Rattle.frame.specs.Written.{first_in}
use Rattle.frame.specs.Reply.{Reply}
use Rattle.frame.specs.Effect.{Effect}
use Rattle.frame.specs.Share.{SHARE, PART}
use Rattle.halves.specs.Halves.{first_half, second_half}
use Rattle.pieces.specs.Pieces.{frame_part, waits}
use Rattle.pieces.proofs.Halved.{first_length, second_length}
use Rattle.pieces.proofs.Shares.{part_length, waits_length, waits_waits, frame_waits, waiting_back, frame_length}
use Rattle.pieces.proofs.Shares.{waits_frame}
use Rattle.desk.specs.declared.Record.{Record}
use Rattle.desk.specs.Desk.{holding, advanced, numbered}
use Rattle.dictation.specs.Dictation.{Lent, Told, Dictated, dictate, dictated_on}

-- ---- one frame: its halves, and the share and the record behind it

module _ (rec : Record) (share xs : List Float) (l : Lent) where
  abbrev pub first : Effect Reply
  first = first_half (get frame_part share) rec.hearing.way (take 480 xs) 22

  -- the logarithms that it is lent
  abbrev pub its_logs : List Float
  its_logs = l.logs (first_in first.written)

  abbrev pub second : Effect Reply
  second = second_half first.kept rec.hearing its_logs l.model 480

  abbrev pub share_after : List Float
  share_after = put frame_part share second.kept

  abbrev pub rec_after : Record
  rec_after = numbered (advanced (holding 3 rec 0 0 0) second.answer)

  module _ (k : length share ≡ SHARE) where
    pub first_part : length first.kept ≡ PART
    first_part = first_length (get frame_part share) rec.hearing.way (take 480 xs) 22 (part_length share k)

    pub second_part : length second.kept ≡ PART
    second_part = second_length first.kept rec.hearing its_logs l.model 480 first_part

    pub after_length : length share_after ≡ SHARE
    after_length = frame_length share k second.kept second_part

  -- what it tells
  abbrev pub told_there : Told
  told_there = (first_in first.written, second.answer, rec_after)

-- d with one frame in front, which told this and filled these
abbrev pub framed : Told → List Float → Dictated → Dictated
framed told ys d = record { rec = d.rec; kept = d.kept; told = told ∷ d.told; out = ys ++ d.out }

pub dictate_more : (rec : Record) (share xs : List Float) (l : Lent) (more : List Lent)
    → dictate rec share xs (l ∷ more)
    ≡ framed (told_there rec share xs l) (first_in (second rec share xs l).written)
    (dictate (rec_after rec share xs l) (share_after rec share xs l) (drop 480 xs) more)
unfolding dictate
dictate_more rec share xs l more = refl

pub dictate_none : (rec : Record) (share xs : List Float)
    → dictate rec share xs []
    ≡ record { rec = holding 1 rec (length xs) 0 0; kept = waits share xs; told = []; out = [] }
unfolding dictate
dictate_none rec share xs = refl

-- ---- what a share is left with

pub share_size : (rec : Record) (share xs : List Float) (lent : List Lent) → length share ≡ SHARE
    → length (dictate rec share xs lent).kept ≡ SHARE
unfolding dictate
share_size rec share xs [] k = waits_length share k xs
share_size rec share xs (l ∷ more) k =
    share_size (rec_after rec share xs l) (share_after rec share xs l) (drop 480 xs) more
    (after_length rec share xs l k)

-- ---- what waited before is of no account

pub washed : (rec : Record) (share ws xs : List Float) (lent : List Lent) → length share ≡ SHARE
    → dictate rec (waits share ws) xs lent ≡ dictate rec share xs lent
unfolding dictate
washed rec share ws xs [] k = rw (waits_waits share k ws xs)
washed rec share ws xs (l ∷ more) k =
    rw (
      frame_waits share k ws,
      waits_frame share k (second rec share xs l).kept (second_part rec share xs l k) ws,
      washed (rec_after rec share xs l) (share_after rec share xs l) ws (drop 480 xs) more
          (after_length rec share xs l k),
    )

-- ---- broken off, and gone on with

-- one dictation and then another
abbrev pub then : Dictated → Dictated → Dictated
then d e = record { rec = e.rec; kept = e.kept; told = d.told ++ e.told; out = d.out ++ e.out }

-- one that goes on where d ended
abbrev pub again : Dictated → List Float → List Lent → Dictated
again d ys ms = dictated_on d.rec d.kept ys ms

-- what waits and which call is due are no part of what a dictation starts from
rested : (rec : Record) (share xs : List Float) (w : ℕ) (lent : List Lent)
    → dictate (holding 1 rec w 0 0) share xs lent ≡ dictate rec share xs lent
unfolding dictate
rested rec share xs w [] = refl
rested rec share xs w (l ∷ more) = refl

pub rejoin : (rec : Record) (share xs ys : List Float) (ls ms : List Lent) → length share ≡ SHARE
    → 480 * length ls ≤ length xs → length xs < 480 * length ls + 480
    → dictate rec share (xs ++ ys) (ls ++ ms) ≡ then (dictate rec share xs ls) (again (dictate rec share xs ls) ys ms)
unfolding dictate
rejoin rec share xs ys [] ms k low high =
    rw (
      waiting_back share k xs (omega arith),
      rested rec (waits share xs) (xs ++ ys) (length xs) ms,
      washed rec share xs (xs ++ ys) ms k,
    )
rejoin rec share xs ys (l ∷ ls) ms k low high =
    let enough : 480 ≤ length xs = omega arith in
    let rest = length-drop 480 xs in
    rw (
      take-append-le 480 xs ys enough,
      drop-append-le 480 xs ys enough,
      rejoin (rec_after rec share xs l) (share_after rec share xs l) (drop 480 xs) ys ls ms
          (after_length rec share xs l k) (omega arith) (omega arith),
      append_assoc,
    )

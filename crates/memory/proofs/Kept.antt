-- What a bench keeps from call to call, and what the calls of a frame make of it.
--     kept-behind     calls behind others
--     kept-recalled   of what is remembered: what `hear` makes of the frames that they bring
--     same_count      how many frames they bring does not depend on what was noted before
-- Assumes nothing.
use Rattle.std.specs.Prelude.{◌∷◌, ◌++◌, ◌≡◌}
use Rattle.rules.proofs.Common.{ℕ, suc, true, false, cond, List, [], refl, ap, length, Float}
use Rattle.rules.specs.F32.{at}
use Rattle.rules.specs.Place.{get}
use Rattle.frame.specs.Reply.{one_more}
use Rattle.frame.specs.Share.{kept_x, kept_ex, kept_lag}
use Rattle.desk.specs.declared.Record.{Record}
use Rattle.memory.specs.Hear.{Recalled, hear, heard_all}
use Rattle.memory.specs.Calls.{FrameCall, one, two, three, four}
use Rattle.memory.specs.Brought.{recalled_in, Noted, noting, heard_frame, brought}

-- what is remembered, what is noted, and the numbers of frames and of heard frames
pub record Kept : Type 0 where
  pub recalled : Recalled
  pub noted : Noted
  pub frame : ℕ
  pub heard : ℕ

abbrev pub kept_of : Recalled → Noted → ℕ → ℕ → Kept
kept_of recalled noted frame heard = record { recalled = recalled; noted = noted; frame = frame; heard = heard }

-- in a record and a share
abbrev pub noted_in : List Float → Noted
noted_in share = record { x = get kept_x share; ex = get kept_ex share; lag = at (get kept_lag share) 0 }

abbrev pub kept_in : Record → List Float → Kept
kept_in rec share = kept_of (recalled_in rec.hearing.index share) (noted_in share) rec.frame rec.heard

-- behind a call
abbrev pub keeping : Kept → FrameCall → Kept
keeping k one = k
keeping k (two x lag) = kept_of k.recalled (noting x lag) k.frame k.heard
keeping k (three heard x logs m) =
    cond heard (kept_of (hear k.recalled (heard_frame k.noted x logs m)) k.noted k.frame
    (one_more k.heard)) k
keeping k four = kept_of k.recalled k.noted (one_more k.frame) k.heard

unfoldable pub kept : Kept → List FrameCall → Kept
kept k [] = k
kept k (c ∷ cs) = kept (keeping k c) cs

pub kept_behind : (k : Kept) (xs ys : List FrameCall) → kept k (xs ++ ys) ≡ kept (kept k xs) ys
unfolding kept
kept_behind k [] ys = refl
kept_behind k (c ∷ xs) ys = kept_behind (keeping k c) xs ys

pub kept_recalled : (k : Kept) (cs : List FrameCall)
    → (kept k cs).recalled ≡ heard_all k.recalled (brought k.noted cs)
unfolding kept brought heard_all
kept_recalled k [] = refl
kept_recalled k (one ∷ cs) = kept_recalled k cs
kept_recalled k (two x lag ∷ cs) = kept_recalled (keeping k (two x lag)) cs
kept_recalled k (three true x logs m ∷ cs) = kept_recalled (keeping k (three true x logs m)) cs
kept_recalled k (three false x logs m ∷ cs) = kept_recalled k cs
kept_recalled k (four ∷ cs) = kept_recalled (keeping k four) cs

pub same_count : (k k' : Noted) (cs : List FrameCall) → length (brought k cs) ≡ length (brought k' cs)
unfolding brought
same_count k k' [] = refl
same_count k k' (one ∷ cs) = same_count k k' cs
same_count k k' (two x lag ∷ cs) = refl
same_count k k' (three true x logs m ∷ cs) = ap suc (same_count k k' cs)
same_count k k' (three false x logs m ∷ cs) = same_count k k' cs
same_count k k' (four ∷ cs) = same_count k k' cs

-- Numbered frames: what specs/Numbering.antt claims.
--     kept_frame, kept-heard     calls move the numbers on by the frames that they end, and hear
-- Assumes nothing.
use Rattle.std.specs.Prelude.{◌+◌, ◌%◌, ◌∷◌, ◌≡◌}
use Rattle.rules.proofs.Common.{ℕ, Bool, true, false, cond, List, [], refl, ap, ◌∙◌, ltb, length}
use native.Mathlib.Nat.{zero-add}
use native.Mathlib.Omega.{arith}
use borrow.Author.Tests.{ltb-true, ltb-false}
use Rattle.frame.specs.Reply.{one_more}
use Rattle.memory.specs.Calls.{FrameCall, one, two, three, four}
use Rattle.memory.specs.Brought.{Noted, noting, unnoted, brought}
use Rattle.memory.proofs.Kept.{Kept, kept, keeping}
use Rattle.isolation.specs.Run.{Kind, Made, expand, Expands}
use Rattle.isolation.specs.Numbering.{calls_in, frames_ended, Numbering}
use Rattle.isolation.proofs.Moved.{kept_at, run, fresh}

-- one more, and 0 after the last, is one more modulo 2^32
next : (a n : ℕ) → n ≡ a % 4294967296 → one_more n ≡ (a + 1) % 4294967296
next a n e = go (ltb n 4294967295) refl
  where
    go : (t : Bool) → ltb n 4294967295 ≡ t → cond t (n + 1) 0 ≡ (a + 1) % 4294967296
    go true h = let below = ltb-true n 4294967295 h in omega arith
    go false h = let above = ltb-false n 4294967295 h in omega arith

kept_frame : (k : Kept) (cs : List FrameCall) (a : ℕ) → k.frame ≡ a % 4294967296
    → (kept k cs).frame ≡ (a + frames_ended cs) % 4294967296
unfolding kept frames_ended
kept_frame k [] a e = e ∙ omega arith
kept_frame k (one ∷ cs) a e = kept_frame k cs a e
kept_frame k (two x lag ∷ cs) a e = kept_frame (keeping k (two x lag)) cs a e
kept_frame k (three true x logs m ∷ cs) a e = kept_frame (keeping k (three true x logs m)) cs a e
kept_frame k (three false x logs m ∷ cs) a e = kept_frame k cs a e
kept_frame k (four ∷ cs) a e = kept_frame (keeping k four) cs (a + 1) (next a k.frame e) ∙ omega arith

kept_heard : (k : Kept) (n : Noted) (cs : List FrameCall) (a : ℕ) → k.heard ≡ a % 4294967296
    → (kept k cs).heard ≡ (a + length (brought n cs)) % 4294967296
unfolding kept brought
kept_heard k n [] a e = e ∙ omega arith
kept_heard k n (one ∷ cs) a e = kept_heard k n cs a e
kept_heard k n (two x lag ∷ cs) a e = kept_heard (keeping k (two x lag)) (noting x lag) cs a e
kept_heard k n (three true x logs m ∷ cs) a e =
    kept_heard (keeping k (three true x logs m)) n cs (a + 1) (next a k.heard e) ∙ omega arith
kept_heard k n (three false x logs m ∷ cs) a e = kept_heard k n cs a e
kept_heard k n (four ∷ cs) a e = kept_heard (keeping k four) n cs a e

pub numbering : {C : Type 0} (serve : Kind C) (asksOf : Made C) (n : ℕ) (expanded : Expands serve asksOf n)
    → Numbering serve asksOf n
numbering serve asksOf n expanded s inside st o calls u =
    let asks = expand serve asksOf n st calls in
    let cs = calls_in n s st asks in
    let k = kept_at n s inside st in
    let new = fresh n s inside st o in
    let r = run n s inside asks st new.1 u in
    let frame = ap (λ (k : Kept). k.frame) r ∙ kept_frame k cs 0 (ap (λ (k : Kept). k.frame) new.0) in
    let heard = ap (λ (k : Kept). k.heard) r ∙ kept_heard k unnoted cs 0 (ap (λ (k : Kept). k.heard) new.0) in
    rw (expanded st calls) (simp zero-add at frame, simp zero-add at heard)

-- The audio of a recording does not depend on how the output is cut into calls. Assumes nothing.
use Rattle.std.specs.Prelude.{◌+◌, ◌-◌, ◌*◌, ◌/◌, ◌≤◌, ◌<◌, ◌∷◌, ◌++◌, ◌≡◌}
use mathlib.Core.Logic.{◌⊎◌, ⊎_elim}
use Rattle.rules.proofs.Common.{ℕ, Bool, true, false, cond, List, []}
use Rattle.rules.proofs.Common.{refl}
use Rattle.rules.proofs.Common.{sym, ap, ◌∙◌, eqb, ltb, length, take, drop, length-take, length-drop}
use native.Mathlib.Omega.{arith}
use borrow.Author.Tests.{ne_eqb, ltb-true, ltb-false}
use lib.Seq.{take_all, take-append-le, take-append-add, drop-append-le}
use mathlib.Core.List.{append-nil}
use Rattle.recorder.specs.Recorder.{next_frame, skip_of, room_of, belonging, with_feed}
use Rattle.recorder.specs.Laws.{taken_in, cleaned_of, HoweverGiven}
use Rattle.recorder.specs.declared.Recorder.{Recorder}
use Rattle.recorder.proofs.GoesOn.{within_feed}

-- the first frame's bytes are dropped once
skip_few : (r : Recorder) → skip_of r ≤ 960
skip_few r = go (eqb (next_frame r) 0)
  where
    go : (t : Bool) → cond t 960 0 ≤ 960
    go true = omega arith
    go false = omega arith

nothing : (s : List ℕ) → length s ≡ 0 → s ≡ []
nothing [] h = refl
nothing (x ∷ s) h = absurd (omega arith)

module _ (r : Recorder) (taken : ℕ) (c records rest : List ℕ) (frames : length c ≡ 960 * (length records / 8)) where
  abbrev next : Recorder
  next = with_feed r taken c records

  same_skip : length records / 8 ≡ 0 → skip_of (with_feed r taken c records) ≡ skip_of r
  unfolding with_feed
  same_skip none = let still : r.front.first + (r.count + length records / 8) ≡ r.front.first + r.count = omega
      arith in rw still

  no_skip : 0 < length records / 8 → skip_of (with_feed r taken c records) ≡ 0
  unfolding with_feed
  no_skip some = rw (ne_eqb (r.front.first + (r.count + length records / 8)) 0 (λ e. absurd (omega (
    arith,
    e,
    some,
  ))))

  drop_on : drop (skip_of r) (c ++ rest) ≡ drop (skip_of r) c ++ drop (skip_of (with_feed r taken c records)) rest
  drop_on = go (ltb 0 (length records / 8)) refl
    where
      go : (t : Bool) → ltb 0 (length records / 8) ≡ t
          → drop (skip_of r) (c ++ rest) ≡ drop (skip_of r) c ++ drop (skip_of (with_feed r taken c records)) rest
      go true e =
          let some = ltb-true 0 (length records / 8) e in
          rw (no_skip some) (drop-append-le (skip_of r) c rest (omega (arith, skip_few r, frames)))
      go false e =
          let none : length records / 8 ≡ 0 = omega (arith, ltb-false 0 (length records / 8) e) in
          let empty = nothing c (omega (arith, none, frames)) in
          let short : length (drop (skip_of r) c) ≡ 0 = simp length-drop (omega (arith, none, frames)) in
          rw (same_skip none, nothing (drop (skip_of r) c) short, empty)

  abbrev x : List ℕ
  x = drop (skip_of r) c

  abbrev y : List ℕ
  y = drop (skip_of (with_feed r taken c records)) rest

  module _ (T : ℕ) (small : r.size ≤ 2 * r.taken) where
    -- all of it finds room
    fits : length (drop (skip_of r) c) ≤ room_of r taken
        → belonging r taken c ++ take (room_of (with_feed r taken c records) T) y
        ≡ take (room_of r (taken + T)) (x ++ y)
    unfolding belonging with_feed
    fits h =
        let all = take_all (room_of r taken) x h in
        let room : room_of r (taken + T) ≡ length x + (2 * (r.taken + taken + T) - (r.size + length x)) = omega arith
        in
        rw (all, room) (sym (take-append-add x y (2 * (r.taken + taken + T) - (r.size + length x))))

    -- more came out than was taken in, and nothing more is taken in
    over : room_of r taken < length (drop (skip_of r) c) → T ≡ 0
        → belonging r taken c ++ take (room_of (with_feed r taken c records) T) y
        ≡ take (room_of r (taken + T)) (x ++ y)
    unfolding belonging with_feed
    over h none =
        let long : length (take (room_of r taken) x) ≡ room_of r taken = simp length-take (omega arith) in
        let full : 2 * (r.taken + taken + T) - (r.size + length (take (room_of r taken) x)) ≡ 0 = omega (arith, long)
        in
        let room : room_of r (taken + T) ≡ room_of r taken = omega arith in
        rw (full, room, append-nil (take (room_of r taken) x))
        (sym (take-append-le (room_of r taken) x y (omega arith)))

    either : (length (drop (skip_of r) c) ≤ room_of r taken) ⊎ (T ≡ 0)
        → belonging r taken c ++ take (room_of (with_feed r taken c records) T) y
        ≡ take (room_of r (taken + T)) (x ++ y)
    either = ⊎_elim fits (λ none. go none (ltb (room_of r taken) (length x)) refl)
      where
        go : T ≡ 0 → (t : Bool) → ltb (room_of r taken) (length x) ≡ t
            → belonging r taken c ++ take (room_of (with_feed r taken c records) T) y
            ≡ take (room_of r (taken + T)) (x ++
            y)
        go none true e = over (ltb-true (room_of r taken) (length x) e) none
        go none false e = fits (ltb-false (room_of r taken) (length x) e)

pub however_given : HoweverGiven
unfolding belonging
however_given r [] small frames time = sym (nothing _ (simp (length-take, length-drop) (omega arith)))
however_given r (g ∷ gs) small frames time =
    let next = with_feed r g.taken g.cleaned g.records in
    let rest = however_given next gs (within_feed r g.taken g.cleaned g.records small) frames.1 time.1 in
    ap (λ (l : List ℕ). belonging r g.taken g.cleaned ++ l) rest
    ∙ either r g.taken g.cleaned g.records (cleaned_of gs) frames.0 (taken_in gs) small time.0
    ∙ ap (take (room_of r (g.taken + taken_in gs))) (sym (drop_on r g.taken g.cleaned g.records (cleaned_of gs)
    frames.0))

-- What is written to a lent buffer.
--     over_none, over_next, lent_over     nothing is written; two writes that meet are one; a part of a buffer as the
--                                         code lends it
--     onto_more, to_none                  buffers behind those that are written to; a call that writes to no buffer
-- Assumes nothing.
use Rattle.std.specs.Prelude.{◌+◌, ◌-◌, ◌≤◌, ◌∷◌, ◌++◌, ◌≡◌}
use Rattle.rules.proofs.Common.{ℕ, List, [], refl, ap, length, Float}
use native.Mathlib.Nat.{add-sub_cancel_left}
use native.Mathlib.Omega.{arith}
use lib.ListN.{take-append-drop}
use Rattle.rules.specs.Place.{put}
use Rattle.rules.proofs.Places.{put_next}
use Rattle.frame.specs.Written.{Written, from, over, onto}

pub over_none : (k : ℕ) (held : List Float) → over (from k []) held ≡ held
unfolding put
over_none k held = take-append-drop k held

pub over_next : (k n : ℕ) (ys zs held : List Float) → length ys ≡ n → k ≤ length held
    → over (from (k + n) zs) (over (from k ys) held) ≡ over (from k (ys ++ zs)) held
over_next k n ys zs held e h = rw (← e) (put_next k held ys zs h)

pub lent_over : (start n : ℕ) (out new numbers : List Float) → new ≡ numbers → length numbers ≡ n
    → put (record { at = start; size = start + n - start }) out new ≡ over (from start numbers) out
lent_over start n out new numbers e l = rw (add-sub_cancel_left start n, e, l)

pub onto_more : (ws us : List Written) (hs gs : List (List Float)) → length ws ≡ length hs
    → onto (ws ++ us) (hs ++ gs) ≡ onto ws hs ++ onto us gs
onto_more [] us [] gs l = refl
onto_more [] us (h ∷ hs) gs l = absurd (omega arith)
onto_more (w ∷ ws) us [] gs l = absurd (omega arith)
onto_more (w ∷ ws) us (h ∷ hs) gs l = ap (λ (t : List (List Float)). over w h ∷ t) (onto_more ws us hs gs (omega arith))

pub to_none : (ws : List Written) → length ws ≡ 0 → ws ≡ []
to_none [] l = refl
to_none (w ∷ ws) l = absurd (omega arith)

-- A reading moves on. Assumes nothing.
use Rattle.std.specs.Prelude.{◌+◌, ◌≤◌, ◌&&◌, ◌||◌, ◌≡◌}
use Rattle.rules.proofs.Common.{ℕ, Bool, true, false, cond, not, List, refl}
use Rattle.rules.proofs.Common.{eqb, ltb, length, drop}
use native.Mathlib.Omega.{arith}
use borrow.Author.Tests.{eqb-true}
use Rattle.rules.proofs.Refusals.{by_each}
use Rattle.sheet.specs.End.{from_four}
use Rattle.wav.specs.Chunks.{RIFF, WAVE, FMT, DATA, front_of, format_faults, formatted, chunk_of, step_of}
use Rattle.wav.specs.Laws.{Onward}
use Rattle.wav.specs.declared.chunks.Head.{Head}
use Rattle.wav.specs.Chunks.{Step}
use Rattle.wav.specs.Chunks.{Audio, On, Refused}

-- where a step goes on, its place is at least this far
data From (least : ℕ) : Step → Type 0 where
  on : {h : Head} → least ≤ h.place → From least (On h)
  found : {h : Head} → From least (Audio h)
  stopped : {n : ℕ} → From least (Refused n)

reached : {least : ℕ} {h : Head} → From least (On h) → least ≤ h.place
reached (on e) = e

choose : {least : ℕ} (t : Bool) {a b : Step} → From least a → From least b → From least (cond t a b)
choose true x y = x
choose false x y = y

format_further : (s : List ℕ) (size : ℕ) (h : Head) → From (h.place + 8) (formatted s size h)
unfolding formatted format_faults
format_further s size h =
    by_each Refused _ (From (h.place + 8)) (format_faults s size)
    (stopped, (stopped, (stopped, (stopped, (stopped, tt))))) (on (omega arith))

chunk_further : (s : List ℕ) (h : Head) → From (h.place + 8) (chunk_of s h)
unfolding chunk_of
chunk_further s h =
    choose (ltb (length s) 8 || ltb 9223372036854775807 h.place) stopped
    (choose (eqb (from_four s) DATA) (choose (eqb h.format 0) stopped found)
    (choose (eqb (from_four s) FMT && eqb h.format 0) (format_further s (from_four (drop 4 s)) h) (on (omega arith))))

front_further : (s : List ℕ) (h : Head) → h.place ≡ 0 → From (h.place + 8) (front_of s)
unfolding front_of
front_further s h e =
    choose (ltb (length s) 12 || (not (eqb (from_four s) RIFF) || not (eqb (from_four (drop 8 s)) WAVE))) stopped
    (on (omega arith))

step_further : (s : List ℕ) (h : Head) → From (h.place + 8) (step_of s h)
unfolding step_of
step_further s h = of (eqb h.place 0) refl
  where
    of : (t : Bool) → eqb h.place 0 ≡ t → From (h.place + 8) (cond t (front_of s) (chunk_of s h))
    of true e = front_further s h (eqb-true h.place 0 e)
    of false e = chunk_further s h

pub onward : Onward
onward s h h' e = reached (rw e at (step_further s h))

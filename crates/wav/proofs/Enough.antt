-- The first 34 bytes from a place on tell all that a step of a reading asks. Assumes nothing.
use Rattle.std.specs.Prelude.{◌+◌, ◌≤◌, ◌≡◌}
use Rattle.rules.proofs.Common.{ℕ, Bool, true, false, List, refl, sym, ap, ◌∙◌, ltb, length, get_or, take}
use Rattle.rules.proofs.Common.{drop, length-take}
use Prim.Native.Nat.{min}
use native.Mathlib.Omega.{arith}
use borrow.Author.Tests.{le-ltb, ltb-true, ltb-false}
use lib.Seq.{take_all, get_or-take}
use Rattle.sheet.specs.End.{from_four}
use Rattle.sheet.proofs.Fields.{four_at_lem}
use Rattle.wav.specs.Chunks.{from_two, front_of, tag_in, format_faults, formatted, chunk_of, step_of}
use Rattle.wav.specs.Laws.{Enough}
use Rattle.wav.specs.declared.chunks.Head.{Head}
use Rattle.wav.proofs.Fields.{two_at}

module _ (s : List ℕ) where
  abbrev front : List ℕ
  front = take 34 s

  byte : (k : ℕ) → k + 1 ≤ 34 → get_or front k 0 ≡ get_or s k 0
  byte k h = get_or-take 34 s k 0 (omega arith)

  four_front : (k : ℕ) → k + 4 ≤ 34 → from_four (drop k front) ≡ from_four (drop k s)
  four_front k h =
      four_at_lem front k ∙ rw (
        byte k (omega arith),
        byte (k + 1) (omega arith),
        byte (k + 2) (omega arith),
        byte (k + 3) (omega arith),
      ) (sym (four_at_lem s k))

  two_front : (k : ℕ) → k + 2 ≤ 34 → from_two (drop k front) ≡ from_two (drop k s)
  two_front k h = two_at front k ∙ rw (byte k (omega arith), byte (k + 1) (omega arith)) (sym (two_at s k))

  module _ (long : 34 ≤ length s) where
    longer : (n : ℕ) → n ≤ 34 → ltb (length front) n ≡ ltb (length s) n
    longer n h = le-ltb (length front) n (simp length-take (omega arith)) ∙ sym (le-ltb (length s) n (omega arith))

    front_same : front_of front ≡ front_of s
    unfolding front_of
    front_same = rw (four_front 0 (omega arith), four_front 8 (omega arith), longer 12 (omega arith))

    tag_same : (size : ℕ) → tag_in size front ≡ tag_in size s
    unfolding tag_in
    tag_same size = rw (two_front 8 (omega arith), two_front 32 (omega arith))

    format_same : (size : ℕ) (h : Head) → formatted front size h ≡ formatted s size h
    unfolding formatted format_faults
    format_same size h =
        rw (
          tag_same size,
          two_front 22 (omega arith),
          two_front 10 (omega arith),
          two_front 20 (omega arith),
          four_front 12 (omega arith),
          longer (8 + min size 26) (omega arith),
        )

    chunk_same : (h : Head) → chunk_of front h ≡ chunk_of s h
    unfolding chunk_of
    chunk_same h =
        rw (
          four_front 0 (omega arith),
          four_front 4 (omega arith),
          longer 8 (omega arith),
          format_same (from_four (drop 4 s)) h,
        )

    step_same : (h : Head) → step_of front h ≡ step_of s h
    unfolding step_of
    step_same h = rw (front_same, chunk_same h)

pub enough : Enough
enough s h = of (ltb (length s) 34) refl
  where
    of : (t : Bool) → ltb (length s) 34 ≡ t → step_of (take 34 s) h ≡ step_of s h
    of true e = let short = ltb-true (length s) 34 e in ap (λ (l : List ℕ). step_of l h) (take_all 34 s (omega arith))
    of false e = step_same s (ltb-false (length s) 34 e) h

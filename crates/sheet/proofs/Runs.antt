-- Runs of good records, and sums of bytes, as loops go through them. Assumes nothing.
use Rattle.std.specs.Prelude.{◌+◌, ◌-◌, ◌*◌, ◌≤◌, ◌<◌, ◌∷◌, ◌++◌, ◌≡◌}
use Rattle.rules.proofs.Common.{ℕ, zero, suc, true, false, not, List, [], refl}
use Rattle.rules.proofs.Common.{sym, ltb, length, get_or, take}
use Rattle.rules.proofs.Common.{drop}
use native.Mathlib.Nat.{zero-add}
use native.Mathlib.Numerals.{add-one}
use native.Mathlib.Omega.{arith}
use borrow.Author.Tests.{lt-ltb, le-ltb, ltb-false, not-true}
use lib.Seq.{drop-drop, drop-cons, take-suc}
use Rattle.rules.specs.Lists.{sum}
use Rattle.rules.proofs.Tests.{both}
use Rattle.sheet.specs.Sheet.{kind}
use Rattle.sheet.specs.End.{good_record, run}
use Rattle.sheet.specs.Written.{known_kinds}

-- what is left of a run after i good records
abbrev pub on_from : ℕ → ℕ → List ℕ → ℕ → ℕ
on_from side n s i = i + run side (n - i) (drop (8 * i) s)

module _ (side n : ℕ) (s : List ℕ) where
  pub run_begin : run side n s ≡ on_from side n s 0
  run_begin = let whole : n - 0 ≡ n = omega arith in rw whole (sym (zero-add (run side n s)))

  turn : (i : ℕ) → i < n → n - i ≡ suc (n - (i + 1))
  turn i h = omega arith

  pub run_more : (i : ℕ) → i < n → good_record side (drop (8 * i) s) ≡ true
      → on_from side n s i ≡ on_from side n s (i + 1)
  unfolding run
  run_more i h g =
      let next : 8 * i + 8 ≡ 8 * (i + 1) = omega arith in
      rw (turn i h, g, drop-drop 8 (8 * i) s, next) (omega arith)

  pub run_stops : (i : ℕ) → i < n → good_record side (drop (8 * i) s) ≡ false → on_from side n s i ≡ i
  unfolding run
  run_stops i h g = rw (turn i h, g) (omega arith)

  pub run_ended : (i : ℕ) → i ≤ n → n ≤ i → on_from side n s i ≡ n
  unfolding run
  run_ended i below h = let none : n - i ≡ 0 = omega arith in rw none (omega arith)

-- a sum of bytes, one more
pub sum_append : (xs ys : List ℕ) → sum (xs ++ ys) ≡ sum xs + sum ys
sum_append [] ys = omega arith
sum_append (x ∷ xs) ys = rw (sum_append xs ys) (omega arith)

pub sum_more : (s : List ℕ) (i : ℕ) {now : ℕ} → i < length s → now ≡ sum (take i s)
    → now + get_or s i 0 ≡ sum (take (i + 1) s)
sum_more s i h e = rw (add-one, take-suc s i 0 h, sum_append) (omega arith)

-- entries that are silent or heard, one by one
pub kinds_none : known_kinds [] ≡ true
unfolding known_kinds
kinds_none = refl

module _ (es : List ℕ) (i : ℕ) (h : i < length es) where
  pub kinds_more : kind (get_or es i 0) ≤ 1 → known_kinds (drop i es) ≡ known_kinds (drop (i + 1) es)
  unfolding known_kinds
  kinds_more k = rw (add-one, drop-cons es i 0 h, le-ltb 1 (kind (get_or es i 0)) k)

  pub kinds_stop : 1 < kind (get_or es i 0) → known_kinds (drop i es) ≡ false
  unfolding known_kinds
  kinds_stop k = rw (drop-cons es i 0 h, lt-ltb 1 (kind (get_or es i 0)) k)

pub first_heard : (e : ℕ) (es : List ℕ) → known_kinds (e ∷ es) ≡ true → (kind e ≤ 1) × (known_kinds es ≡ true)
unfolding known_kinds
first_heard e es h = let b = both (not (ltb 1 (kind e))) (known_kinds es) h in
    (ltb-false 1 (kind e) (not-true _ b.0), b.1)

pub all_heard : (es : List ℕ) → known_kinds es ≡ true → (i : ℕ) → kind (get_or es i 0) ≤ 1
all_heard [] h i = omega arith
all_heard (e ∷ es) h zero = (first_heard e es h).0
all_heard (e ∷ es) h (suc i) = all_heard es (first_heard e es h).1 i

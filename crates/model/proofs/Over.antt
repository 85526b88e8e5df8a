-- Bytes written one behind the other. Assumes nothing.
use Rattle.std.specs.Prelude.{◌+◌, ◌≤◌, ◌++◌, ◌≡◌}
use Rattle.rules.proofs.Common.{ℕ, List, sym, ap, ◌∙◌, length, take, drop, length-take}
use Rattle.rules.proofs.Common.{length-drop, length-append}
use mathlib.Core.List.{append_assoc}
use native.Mathlib.Nat.{add_assoc}
use native.Mathlib.Omega.{arith}
use lib.Seq.{take_at, drop-append-add, drop-drop}
use Rattle.model.specs.Private.{overwritten, Put}

pub length_over : (out : List ℕ) (at : ℕ) (bytes : List ℕ) → at + length bytes ≤ length out
    → length (overwritten out at bytes) ≡ length out
unfolding overwritten
length_over out at bytes h = simp (length-append, length-take, length-drop) (omega arith)

module _ (out : List ℕ) (at : ℕ) (xs ys : List ℕ) (fits : at + length xs ≤ length out) where
  pub over_over : overwritten (overwritten out at xs) (at + length xs) ys ≡ overwritten out at (xs ++ ys)
  unfolding overwritten
  over_over =
      let p = take at out ++ xs in
      let rest = drop (at + length xs) out in
      let long : length p ≡ at + length xs = simp (length-append, length-take) (omega arith) in
      let apart : take at out ++ (xs ++ rest) ≡ p ++ rest = sym (append_assoc (take at out) xs rest) in
      let left : drop (at + length xs + length ys) (p ++ rest) ≡ drop (at + (length xs + length ys)) out =
      ap (λ (n : ℕ). drop (n + length ys) (p ++ rest)) (sym long) ∙ drop-append-add p rest (length ys)
      ∙ drop-drop (length ys) (at + length xs) out ∙ rw (add_assoc at (length xs) (length ys)) in
      rw (apart, take_at p rest (at + length xs) long, left, length-append xs ys)
      (append_assoc (take at out) xs _ ∙ rw (append_assoc xs ys (drop (at + (length xs + length ys)) out)))

-- of two rows of bytes that fit, the first does
pub front : (at : ℕ) (xs ys : List ℕ) (n : ℕ) → at + length (xs ++ ys) ≤ n → at + length xs ≤ n
front at xs ys n fits = omega (arith, length-append xs ys)

-- what is put behind what was put
module _ {at : ℕ} {xs out : List ℕ} {next : ℕ} {after : List ℕ} (one : Put at xs out next after) (ys : List ℕ)
    (fits : at + length (xs ++ ys) ≤ length out) where
  pub behind : next + length ys ≤ length after
  behind =
      omega (
        arith,
        one.ends,
        ap length one.left,
        length_over out at xs (front at xs ys (length out) fits),
        length-append xs ys,
      )

  pub both : {next' : ℕ} {after' : List ℕ} → Put next ys after next' after' → Put at (xs ++ ys) out next' after'
  both two =
      record {
        ends = two.ends ∙ rw (one.ends, length-append xs ys) (omega arith);
        left = two.left ∙ rw (one.ends, one.left) (over_over out at xs ys (front at xs ys (length out) fits));
      }

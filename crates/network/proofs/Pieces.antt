-- Slices that are put into a buffer one after the other. Assumes nothing.
use Rattle.std.specs.Prelude.{◌+◌, ◌++◌, ◌≡◌}
use Rattle.rules.proofs.Common.{ℕ, List, length, take}
use native.Mathlib.Nat.{zero-add}

module _ {A : Type 0} where
  pub joined : (a b c d d₁ d₂ d₃ : List A) → take (0 + length a) d₁ ≡ take 0 d ++ a
      → take (length a + length b) d₂ ≡ take (length a) d₁ ++ b
      → take (length a + length b + length c) d₃ ≡ take (length a + length b) d₂ ++ c
      → take (length a + length b + length c) d₃ ≡ a ++ b ++ c
  joined a b c d d₁ d₂ d₃ e e' e'' = let first : take (length a) d₁ ≡ a = rw zero-add at e in rw (e'', e', first)

  -- the front of the buffer, where two of the slices are known otherwise
  pub as_inputs : (a b c buf : List A) (k : ℕ) {a' b' : List A} → a ≡ a' → b ≡ b' → k ≡ length a + length b + length c
      → take (length a + length b + length c) buf ≡ a ++ b ++ c → take k buf ≡ a' ++ b' ++ c
  as_inputs a b c buf k ea eb l e = rw (l, e, ea, eb)

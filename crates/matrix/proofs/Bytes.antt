-- A model byte, moved to the middle of the bytes and back: computed for all 256. Assumes nothing.
use Rattle.std.specs.Prelude.{◌+◌, ◌%◌, ◌^◌, ◌<◌, ◌≡◌}
use Rattle.rules.proofs.Common.{ℕ, Bool, false, ap, eqb, ltb, T, pos}
use lib.Dec.{ltb→lt, eqb→eq}
use lib.IntN.{ℤ, negsuc, ◌-ℤ◌}
use lib.Signed.{mag}
use mir.Syntax.{w16}
use mir.Val.{to_z, of_z}
use Rattle.rules.proofs.Tests.{at_each}
use Rattle.matrix.specs.Sums.{signed_byte}

abbrev moved : ℕ → ℤ
moved b = to_z w16 ((b + 128) % 256) -ℤ pos 128

abbrev same : ℤ → ℤ → Bool
same (pos m) (pos n) = eqb m n
same (pos m) (negsuc n) = false
same (negsuc m) (pos n) = false
same (negsuc m) (negsuc n) = eqb m n

same→ : (x y : ℤ) → T (same x y) → x ≡ y
same→ (pos m) (pos n) t = ap pos (eqb→eq m n t)
same→ (pos m) (negsuc n) t = absurd t
same→ (negsuc m) (pos n) t = absurd t
same→ (negsuc m) (negsuc n) t = ap negsuc (eqb→eq m n t)

pub moved_fits : (b : ℕ) → b < 256 → mag (moved b) < 2 ^ 15
moved_fits b h = ltb→lt _ _ (at_each 256 (λ k. ltb (mag (moved k)) (2 ^ 15)) tt b h)

pub moved_signed : (b : ℕ) → b < 256 → to_z w16 (of_z w16 (moved b)) ≡ signed_byte b
moved_signed b h = same→ _ _ (at_each 256 (λ k. same (to_z w16 (of_z w16 (moved k))) (signed_byte k)) tt b h)

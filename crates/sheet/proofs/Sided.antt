-- A side and the number that names it. Assumes nothing.
use Rattle.std.specs.Prelude.{◌≤◌, ◌<◌, ◌≡◌, Option, Some, None}
use Rattle.std.specs.Option.{IsSome}
use Rattle.rules.proofs.Common.{ℕ, zero, suc, refl, sym, ◌∙◌}
use native.Mathlib.Omega.{arith}
use Rattle.sides.specs.Sides.{number_of, of_number}
use Rattle.sides.specs.declared.Side.{Side}
use Rattle.sides.specs.declared.Side.TheVariants.{Left, Right}
use Rattle.sides.proofs.Back.{number_only}

at_most : (s : Side) → number_of s ≤ 1
at_most Left = omega arith
at_most Right = omega arith

-- a number that names a side is that side's
pub named : (n : ℕ) (s : Side) {m : Option Side} → m ≡ of_number n → m ≡ Some s → number_of s ≡ n
named n s e f = sym (number_only n s (sym e ∙ f))

pub small : (n : ℕ) (s : Side) {m : Option Side} → m ≡ of_number n → m ≡ Some s → n ≤ 1
small n s e f = let less = at_most s in omega (arith, named n s e f)

-- 0 and 1 name one
pub known : (n : ℕ) {m : Option Side} → m ≡ of_number n → n ≤ 1 → IsSome m
known zero e h = rw e refl
known (suc zero) e h = rw e refl
known (suc (suc n)) e h = absurd (omega (arith, h))

-- and no other number does
pub unnamed : (n : ℕ) {m : Option Side} → m ≡ of_number n → m ≡ None → 1 < n
unnamed zero e f = absurd (let z : None ≡ Some Left = sym f ∙ e in cc)
unnamed (suc zero) e f = absurd (let z : None ≡ Some Right = sym f ∙ e in cc)
unnamed (suc (suc n)) e f = omega arith

-- `model::array_numbers` meets its contract: two numbers that fit, of the place that `array_place` finds.
-- Assumes nothing.
use Rattle.std.specs.Prelude.{◌∷◌, ◌≡◌}
use Rattle.rules.proofs.Common.{ℕ, List, [], refl, length, set}
use native.Mathlib.Omega.{arith}
use borrow.Author.Rules.{rules}
use borrow.Author.Tests.{eq-eqb}
use Rattle.rules.proofs.Tests.{tests}
use Rattle.model.specs.Summary.{array_told}
use Rattle.model.proofs.Bounds.{array_small}
use Rattle.model.proofs.array_numbers.Goals as goal

both_set : (xs : List ℕ) (a b : ℕ) → length xs ≡ 2 → set (set xs 0 a) 1 b ≡ a ∷ b ∷ []
both_set (x ∷ y ∷ []) a b l = refl
both_set [] a b l = absurd (omega arith)
both_set (x ∷ []) a b l = absurd (omega arith)
both_set (x ∷ y ∷ z ∷ zs) a b l = absurd (omega arith)

pub returns-then-place-ne2 : goal.returns-then-place-ne2
unfolding array_told
returns-then-place-ne2 c = search tests

pub returns-in_err-read : goal.returns-in_err-read
unfolding array_told
returns-in_err-read c = rw (eq-eqb _ 2 c.if-place-ne2.false, ← c.in_err-read.ensures) (search rules)

pub overflow_cast-place : goal.overflow_cast-place
overflow_cast-place c =
    let a = c.args in
    rw c.array_place-p.ensures.0 (omega (arith, array_small a.bytes.now a.layer a.which))

pub overflow_cast-place-2 : goal.overflow_cast-place-2
overflow_cast-place-2 c =
    let a = c.args in
    rw c.array_place-p.ensures.1 (omega (arith, array_small a.bytes.now a.layer a.which))

pub returns : goal.returns
unfolding array_told
returns c =
    let a = c.args in
    rw (
      eq-eqb _ 2 c.if-place-ne2.false,
      both_set a.place.now c.array_place-p.result.at c.array_place-p.result.size c.if-place-ne2.false,
      c.array_place-p.ensures.0,
      c.array_place-p.ensures.1,
      ← c.in_ok-read.ensures,
    )

-- A side's number and its letters mean that side alone. Assumes nothing.
use Rattle.std.specs.Prelude.{◌≡◌, Some, None}
use Rattle.rules.proofs.Common.{ℕ, Bool, true, false, cond, refl, eqb}
use native.Mathlib.Omega.{arith}
use borrow.Author.Tests.{eqb-true}
use Rattle.sides.specs.Sides.{LEFT, RGHT}
use Rattle.sides.specs.Laws.{NumberBack, NumberOnly, LettersBack, LettersOnly}
use Rattle.sides.specs.declared.Side.{Side}
use Rattle.sides.specs.declared.Side.TheVariants.{Left, Right}

pub number_back : NumberBack
number_back Left = refl
number_back Right = refl

pub letters_back : LettersBack
letters_back Left = refl
letters_back Right = refl

-- of two tests, the one that holds says the side
pick : (s t : Bool) (side : Side) {A : Type 0} → cond s (Some Left) (cond t (Some Right) None) ≡ Some side
    → (s ≡ true → Left ≡ side → A) → (t ≡ true → Right ≡ side → A) → A
pick true t side e left right = left refl (let z : Left ≡ side = cc in z)
pick false true side e left right = right refl (let z : Right ≡ side = cc in z)
pick false false side e left right = absurd (let z : ◌≡◌ {A = ℕ} 0 1 = cc in omega arith)

pub number_only : NumberOnly
number_only n side e =
    pick (eqb n 0) (eqb n 1) side e (λ t s. rw (← s) (eqb-true n 0 t)) (λ t s. rw (← s) (eqb-true n 1 t))

pub letters_only : LettersOnly
letters_only n side e =
    pick (eqb n LEFT) (eqb n RGHT) side e (λ t s. rw (← s) (eqb-true n LEFT t)) (λ t s. rw (← s) (eqb-true n RGHT t))

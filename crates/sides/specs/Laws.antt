-- Claims about sides. Proofs: proofs/Back.antt.
use Rattle.std.specs.Prelude.{◌≡◌, Some}
use Rattle.rules.specs.Common.{ℕ}
use Rattle.sides.specs.Sides.{number_of, letters_of, of_number, of_letters}
use Rattle.sides.specs.declared.Side.{Side}

-- The number of a side means that side, and no other number does.
abbrev pub NumberBack : Type 0
NumberBack = (side : Side) → of_number (number_of side) ≡ Some side

abbrev pub NumberOnly : Type 0
NumberOnly = (n : ℕ) (side : Side) → of_number n ≡ Some side → n ≡ number_of side

-- The same for its four letters.
abbrev pub LettersBack : Type 0
LettersBack = (side : Side) → of_letters (letters_of side) ≡ Some side

abbrev pub LettersOnly : Type 0
LettersOnly = (n : ℕ) (side : Side) → of_letters n ≡ Some side → n ≡ letters_of side

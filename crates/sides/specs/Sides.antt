-- Left and right, as a number and as four letters. Four letters are read as a number, least significant byte
-- first.
use Rattle.std.specs.Prelude.{Option, Some, None}
use Rattle.rules.specs.Common.{ℕ, cond, eqb}
use Rattle.sides.specs.declared.Side.{Side}
use Rattle.sides.specs.declared.Side.TheVariants.{Left, Right}

-- The letters "LEFT" and "RGHT".
abbrev pub LEFT : ℕ
LEFT = 0x5446454C

abbrev pub RGHT : ℕ
RGHT = 0x54484752

abbrev pub number_of : Side → ℕ
number_of Left = 0
number_of Right = 1

abbrev pub letters_of : Side → ℕ
letters_of Left = LEFT
letters_of Right = RGHT

abbrev pub of_number : ℕ → Option Side
of_number n = cond (eqb n 0) (Some Left) (cond (eqb n 1) (Some Right) None)

abbrev pub of_letters : ℕ → Option Side
of_letters n = cond (eqb n LEFT) (Some Left) (cond (eqb n RGHT) (Some Right) None)

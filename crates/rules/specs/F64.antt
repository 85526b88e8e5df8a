-- Rust's f64 operators. Each operation is rounded by itself.
use Rattle.rules.specs.Common.{ℕ, Float, binary64, of_bits}
use Rattle.std.specs.Float.Ieee.{add, sub, mul}

infixl 65 ◌+₆₄◌ ◌-₆₄◌
infixl 70 ◌*₆₄◌
abbrev pub ◌+₆₄◌ : Float → Float → Float
x +₆₄ y = add binary64 x y

abbrev pub ◌-₆₄◌ : Float → Float → Float
x -₆₄ y = sub binary64 x y

abbrev pub ◌*₆₄◌ : Float → Float → Float
x *₆₄ y = mul binary64 x y

-- The f64 with this bit pattern. Constants are written so.
abbrev pub f64 : ℕ → Float
f64 bits = of_bits binary64 bits

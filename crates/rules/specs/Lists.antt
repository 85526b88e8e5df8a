-- Lists of whole numbers, such as the bytes of a file.
use Rattle.std.specs.Prelude.{◌+◌, ◌<◌, ◌∷◌}
use Rattle.rules.specs.Common.{ℕ, List, [], get_or}

-- Every number of the list is a byte.
abbrev pub Bytes : List ℕ → Type 0
Bytes s = (i : ℕ) → get_or s i 0 < 256

abbrev pub sum : List ℕ → ℕ
sum [] = 0
sum (n ∷ ns) = n + sum ns

-- For the contracts of private functions.
use Rattle.std.specs.Prelude.{◌+◌, ◌*◌, ◌^◌, ◌≤◌, ◌<◌, ◌∷◌, ◌++◌, ◌≡◌}
use Rattle.rules.specs.Common.{ℕ, List, [], ltb, length, get_or, take, drop}
use Rattle.rules.specs.Leaf.{◌leaving◌}
use Rattle.rules.specs.Lists.{sum}
use Rattle.rules.specs.Refusals.{◌when◌, refusing}
use Rattle.sheet.specs.Sheet.{kind, trailer_of}
use Rattle.sheet.specs.End.{number, side_byte, start, sheet_faults}
use Rattle.sheet.specs.End.{Reading, Good, Refused}

-- The answer by the first three refusals alone, and the answer by the others.
abbrev pub pointed : List ℕ → Reading
pointed s = refusing (take 3 (sheet_faults s)) Refused (Good (start s) (number s) (side_byte s))

abbrev pub checked : List ℕ → Reading
checked s = refusing (drop 3 (sheet_faults s)) Refused (Good (start s) (number s) (side_byte s))

-- A sheet that reads has fewer than 2^29 records, because its distance is below 2^32.
abbrev pub Few : Reading → Type 0
Few (Good at n side) = n < 2 ^ 29
Few (Refused n) = Unit

-- A start, a number of records and a side, as a trailer says them.
pub record Pointed (s : List ℕ) (at n side : ℕ) : Type 0 where
  pub starts : at ≡ start s
  pub counts : n ≡ number s
  pub sided : side ≡ side_byte s
  pub ends : at + 8 * n + 16 ≡ length s
  pub few : n < 2 ^ 29
  pub known : side ≤ 1

-- Every entry is silent or heard.
abbrev pub Kinds : List ℕ → Type 0
Kinds es = (i : ℕ) → kind (get_or es i 0) ≤ 1

-- Records at the front of a buffer, followed by their trailer.
abbrev pub closed : ℕ → ℕ → List ℕ → List ℕ
closed n side out = let rs = take (8 * n) out in rs ++ trailer_of n side (sum rs)

-- A file copied into a buffer.
abbrev pub copied : List ℕ → ℕ → List ℕ → List ℕ → ℕ × (List ℕ × List ℕ)
copied s n numbers out =
    refusing (36 when ltb (length out) (length s) ∷ []) (λ r. r leaving numbers leaving out)
    (0 leaving length s ∷ n ∷ [] leaving s ++ drop (length s) out)

-- What a host is told about a file, in numbers: what is returned, and what its buffer holds afterwards.
use Rattle.std.specs.Prelude.{◌∷◌}
use Rattle.rules.specs.Common.{ℕ, not, List, [], eqb, leb, length, get_or}
use Rattle.rules.specs.Leaf.{◌leaving◌}
use Rattle.rules.specs.Refusals.{◌when◌, refusing}
use Rattle.sheet.specs.End.{End, sheet, refused, end_of, read_sheet}
use Rattle.sheet.specs.End.{Reading, Good, Refused}

-- Where the records start, how many there are, and the side.
abbrev pub summary_told : Reading → List ℕ → ℕ × List ℕ
summary_told (Good start records side) out = 0 leaving start ∷ records ∷ side ∷ []
summary_told (Refused n) out = n leaving out

unfoldable pub sheet_summary : List ℕ → List ℕ → ℕ × List ℕ
sheet_summary s out =
    refusing (5 when not (eqb (length out) 3) ∷ []) (λ n. n leaving out) (summary_told (read_sheet s) out)

-- One entry. 5 if there is none with this index.
abbrev pub entry_in : End → ℕ → List ℕ → ℕ × List ℕ
entry_in (sheet before sh) i out =
    refusing (5 when leb (length sh.entries) i ∷ []) (λ n. n leaving out) (0 leaving get_or sh.entries i 0 ∷ [])
entry_in (refused n) i out = n leaving out

unfoldable pub entry_at : List ℕ → ℕ → List ℕ → ℕ × List ℕ
entry_at s i out = refusing (5 when not (eqb (length out) 1) ∷ []) (λ n. n leaving out) (entry_in (end_of s) i out)

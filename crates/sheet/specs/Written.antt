-- Writing a sheet: what is returned, and what the buffer holds afterwards.
use Rattle.std.specs.Prelude.{◌&&◌, ◌∷◌, ◌++◌}
use Rattle.rules.specs.Common.{ℕ, Bool, true, not, List, [], ltb, length, drop}
use Rattle.rules.specs.Leaf.{◌leaving◌}
use Rattle.rules.specs.Refusals.{Row, ◌when◌, refusing}
use Rattle.sheet.specs.Sheet.{Sheet, kind, sheet_bytes, sheet_size}

-- Every entry is silent or heard.
unfoldable pub known_kinds : List ℕ → Bool
known_kinds [] = true
known_kinds (e ∷ es) = not (ltb 1 (kind e)) && known_kinds es

-- The refusals of a sheet, and last that of a buffer with too little room.
abbrev pub written_faults : Sheet → ℕ → List Row
written_faults sh room =
    32 when ltb 536870911 (length sh.entries)
    ∷ 33 when ltb 1 sh.side
    ∷ 34 when not (known_kinds sh.entries)
    ∷ 36 when ltb room (sheet_size (length sh.entries))
    ∷ []

unfoldable pub written_of : Sheet → List ℕ → ℕ × List ℕ
written_of sh out =
    refusing (written_faults sh (length out)) (λ n. n leaving out)
    (0 leaving sheet_bytes sh ++ drop (sheet_size (length sh.entries)) out)

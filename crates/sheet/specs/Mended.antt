-- Mending a torn sheet (document 02, request 14), given the file and where its audio ends.
use Rattle.std.specs.Prelude.{◌/◌, ◌&&◌, ◌∷◌, ◌++◌}
use Rattle.rules.specs.Common.{ℕ, Bool, false, cond, not, List, [], eqb, ltb, length, get_or, take}
use Rattle.rules.specs.Common.{drop}
use Rattle.rules.specs.Leaf.{◌leaving◌}
use Rattle.rules.specs.Refusals.{Row, ◌when◌, refusing}
use Rattle.sheet.specs.Sheet.{Sheet, sheet_bytes}
use Rattle.sheet.specs.End.{run, entries_of, read_sheet}
use Rattle.sheet.specs.End.{Reading, Good, Refused}

-- How many whole good records, all of the first one's side, are at the front of the bytes after the audio.
unfoldable pub kept : List ℕ → ℕ
kept s = let side = get_or s 5 0 in cond (ltb 1 side) 0 (run side (length s / 8) s)

abbrev pub torn : List ℕ → Sheet
torn s = record { side = get_or s 5 0; entries = entries_of (kept s) s }

-- The file reads, and its records start at this place.
abbrev pub reads_at : ℕ → Reading → Bool
reads_at place (Good start n side) = eqb start place
reads_at place (Refused n) = false

abbrev pub records_in : Reading → ℕ
records_in (Good start n side) = n
records_in (Refused n) = 0

pub record Mended : Type 0 where
  pub bytes : List ℕ
  pub records : ℕ

-- The unchanged file if it reads with its records at this place; otherwise its audio and the sheet of the
-- records that are kept.
unfoldable pub mended : List ℕ → ℕ → Mended
mended s place =
    let rest = drop place s in
    cond (reads_at place (read_sheet s)) (record { bytes = s; records = records_in (read_sheet s) })
    (record { bytes = take place s ++ sheet_bytes (torn rest); records = kept rest })

-- The refusals, in order.
abbrev pub mend_faults : List ℕ → ℕ → List ℕ → List ℕ → List Row
mend_faults s place numbers out =
    let anew = not (reads_at place (read_sheet s)) in
    let n = kept (drop place s) in
    5 when not (eqb (length numbers) 2)
    ∷ 37 when ltb (length s) place
    ∷ 38 when (anew && eqb n 0)
    ∷ 32 when (anew && ltb 536870911 n)
    ∷ 36 when ltb (length out) (length (mended s place).bytes)
    ∷ []

-- What is returned, and what the numbers and the buffer hold afterwards: the length of the file and how many
-- records it has, and the file.
unfoldable pub mend_of : List ℕ → ℕ → List ℕ → List ℕ → ℕ × (List ℕ × List ℕ)
mend_of s place numbers out =
    let m = mended s place in
    refusing (mend_faults s place numbers out) (λ r. r leaving numbers leaving out)
    (0 leaving length m.bytes ∷ m.records ∷ [] leaving m.bytes ++ drop (length m.bytes) out)

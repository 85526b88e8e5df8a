-- Claims about sheets: the writer and the reader are inverse (request 02; proofs/Written), mending (request
-- 14; proofs/Mending, proofs/Succeeds), a sheet in parts (proofs/InRow), and what the functions that a host
-- calls report of what they wrote (proofs/Reported).
use Rattle.std.specs.Prelude.{◌⊎◌, ◌+◌, ◌*◌, ◌≤◌, ◌<◌, ◌∷◌, ◌++◌, ◌≡◌}
use Rattle.rules.specs.Common.{ℕ, true, false, List, [], length, get_or, take, drop}
use Rattle.rules.specs.Leaf.{◌leaving◌}
use Rattle.rules.specs.Lists.{Bytes}
use Rattle.sheet.specs.Sheet.{Sheet, records_of, trailer_of, sheet_bytes, sheet_size}
use Rattle.sheet.specs.End.{good_record, run, sheet, end_of, read_sheet}
use Rattle.sheet.specs.Asked.{sheet_summary, entry_at}
use Rattle.sheet.specs.Written.{written_of}
use Rattle.sheet.specs.Mended.{kept, reads_at, records_in, mend_of}
use Rattle.sheet.specs.Rows.{Tally, with_records, records_laid, trailer_laid}

-- ---- the writer and the reader

-- What was written reads as it was given, after any bytes, and starts where these end.
abbrev pub SheetReads : Type 0
SheetReads =
    (sh : Sheet) (before out after : List ℕ) → (0 leaving after) ≡ written_of sh out
    → end_of (before ++ take (sheet_size (length sh.entries)) after) ≡ sheet before sh

-- Whatever reads is written back: with enough room its sheet is not refused, and the bytes that are written
-- are those that were there.
abbrev pub SheetWritten : Type 0
SheetWritten =
    (s before out : List ℕ) (sh : Sheet) → Bytes s → sheet before sh ≡ end_of s
    → let file = drop (length before) s in length file ≤ length out
    → (s ≡ before ++ file) × ((0 leaving file ++ drop (length file) out) ≡ written_of sh out)

-- ---- mending

-- `file`, with n records, is what the bytes s, whose audio ends at `place`, are mended to.
pub record MendedTo (s : List ℕ) (place n : ℕ) (file : List ℕ) : Type 0 where
  -- It reads, and its n records start at the place.
  pub reads : reads_at place (read_sheet file) ≡ true
  pub counts : records_in (read_sheet file) ≡ n
  -- The audio and the records are those that were there.
  pub keeps : take (place + 8 * n) file ≡ take (place + 8 * n) s
  -- A file that already reads so is copied unchanged.
  pub copies : reads_at place (read_sheet s) ≡ true → file ≡ s
  -- Otherwise there was no longer run of good records of one side.
  pub longest : reads_at place (read_sheet s) ≡ false → (side m : ℕ) → side ≤ 1 → 8 * m ≤ length (drop place s)
      → run side m (drop place s) ≡ m → m ≤ n

-- If nothing is refused, such a file is written; its length and the number of its records are returned, and
-- the bytes after it stay.
abbrev pub Mends : Type 0
Mends =
    (s : List ℕ) (place : ℕ) (numbers out told after : List ℕ) → Bytes s
    → (0 leaving told leaving after) ≡ mend_of s place numbers out
    → let size = get_or told 0 0 in MendedTo s place (get_or told 1 0) (take size after)
    × (drop size after ≡ drop size out)

-- At least one whole good record follows the audio, and no more than a sheet can hold.
abbrev pub RecordsFollow : List ℕ → Type 0
RecordsFollow rest =
    (side : ℕ) × (side ≤ 1) × (8 ≤ length rest) × (good_record side rest ≡ true) × (kept rest ≤ 536870911)

-- Mending is not refused if it can be done: the place is inside the file, the file reads there or records
-- follow, and there is room.
abbrev pub MendSucceeds : Type 0
MendSucceeds =
    (s : List ℕ) (place : ℕ) (numbers out : List ℕ) → length numbers ≡ 2 → place ≤ length s
    → (reads_at place (read_sheet s) ≡ true) ⊎ RecordsFollow (drop place s) → length s + 16 ≤ length out
    → (mend_of s place numbers out).0 ≡ 0

-- ---- a sheet in parts

-- The records of some parts in a row, and the trailer of their tally.
abbrev pub in_row : ℕ → Tally → List (List ℕ) → List ℕ
in_row side t [] = trailer_of t.count side t.total
in_row side t (es ∷ parts) = records_of side es ++ in_row side (with_records side es t) parts

abbrev pub together : List (List ℕ) → List ℕ
together [] = []
together (es ∷ parts) = es ++ together parts

-- They are the sheet of all their entries, as it is written at once.
abbrev pub PartsAreWhole : Type 0
PartsAreWhole = (side : ℕ) (parts : List (List ℕ))
    → in_row side (record { count = 0; total = 0 }) parts
    ≡ sheet_bytes (record { side = side; entries = together parts })

-- ---- what a host is told of what it wrote

-- A file that reports a sheet after `start` bytes: the reader returns 0, where the records start, how many
-- there are, and the side; and it gives back each entry.
pub record Reports (file : List ℕ) (start side : ℕ) (entries : List ℕ) : Type 0 where
  pub summary : (numbers : List ℕ) → length numbers ≡ 3
      → sheet_summary file numbers ≡ (0 leaving start ∷ length entries ∷ side ∷ [])
  pub each : (i : ℕ) (entry : List ℕ) → length entry ≡ 1 → i < length entries
      → entry_at file i entry ≡ (0 leaving get_or entries i 0 ∷ [])

-- What `write` wrote is reported, after any bytes.
abbrev pub WrittenIsReported : Type 0
WrittenIsReported =
    (sh : Sheet) (before out after : List ℕ) → (0 leaving after) ≡ written_of sh out
    → Reports (before ++ take (sheet_size (length sh.entries)) after) (length before) sh.side sh.entries

-- Calls of `records`, each with the numbers that the one before left, followed by a call of `trailer` with
-- the last ones. None was refused; these were their entries, and these are the bytes that they wrote, in a
-- row.
pub data WrittenInParts (side : ℕ) : List ℕ → List (List ℕ) → List ℕ → Type 0 where
  closing : (numbers out after : List ℕ)
      → (0 leaving after) ≡ trailer_laid side (get_or numbers 0 0) (get_or numbers 1 0) out
      → WrittenInParts side numbers [] (take 16 after)
  adding : (numbers numbers' entries out after : List ℕ) {parts : List (List ℕ)} {rest : List ℕ}
      → (0 leaving numbers' leaving after) ≡ records_laid side entries numbers out
      → WrittenInParts side numbers' parts rest
      → WrittenInParts side numbers (entries ∷ parts) (take (8 * length entries) after ++ rest)

-- All of it is reported, after any bytes.
abbrev pub PartsAreReported : Type 0
PartsAreReported =
    (side : ℕ) (parts : List (List ℕ)) (before bytes : List ℕ) → WrittenInParts side (0 ∷ 0 ∷ []) parts bytes
    → Reports (before ++ bytes) (length before) side (together parts)

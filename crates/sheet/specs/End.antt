-- What is at the end of some bytes: a sheet and the bytes before it, or a refusal.
use Rattle.std.specs.Prelude.{Result, Ok, Err, ◌+◌, ◌-◌, ◌*◌, ◌%◌, ◌&&◌, ◌||◌, ◌∷◌}
use Rattle.rules.specs.Common.{ℕ, zero, suc, Bool, cond, not, List, [], eqb, ltb}
use Rattle.rules.specs.Common.{length, get_or, take, drop}
use Rattle.rules.specs.Lists.{sum}
use Rattle.rules.specs.Refusals.{Row, ◌when◌, refusing}
use Rattle.sheet.specs.Sheet.{Sheet}
use Rattle.rules.specs.Refusal.{refusal_number}
use Rattle.rules.specs.declared.refusal.Refusal.{Refusal}
use Rattle.sheet.specs.declared.Found.{Found}

-- The number that the first four bytes are.
unfoldable pub from_four : List ℕ → ℕ
from_four s = get_or s 0 0 + 256 * get_or s 1 0 + 65536 * get_or s 2 0 + 16777216 * get_or s 3 0

-- The first three bytes are zeros.
unfoldable pub three_zeros : List ℕ → Bool
three_zeros s = eqb (get_or s 0 0) 0 && (eqb (get_or s 1 0) 0 && eqb (get_or s 2 0) 0)

-- ---- records, in front of some bytes

-- The first record is of this side, is silent or heard, and ends in two zeros.
unfoldable pub good_record : ℕ → List ℕ → Bool
good_record side s =
    not (ltb 1 (get_or s 4 0))
    && (eqb (get_or s 5 0) side && (eqb (get_or s 6 0) 0 && eqb (get_or s 7 0) 0))

-- How many of n records are good, up to the first that is not.
unfoldable pub run : ℕ → ℕ → List ℕ → ℕ
run side zero s = 0
run side (suc n) s = cond (good_record side s) (suc (run side n (drop 8 s))) 0

unfoldable pub entry_of : List ℕ → ℕ
entry_of s = from_four s + 4294967296 * get_or s 4 0

unfoldable pub entries_of : ℕ → List ℕ → List ℕ
entries_of zero s = []
entries_of (suc n) s = entry_of s ∷ entries_of n (drop 8 s)

-- ---- the last 16 bytes, and what they point back to

abbrev pub trailer : List ℕ → List ℕ
trailer s = drop (length s - 16) s

unfoldable pub trailer_distance : List ℕ → ℕ
trailer_distance s = from_four (trailer s)

unfoldable pub number : List ℕ → ℕ
number s = from_four (drop 4 (trailer s))

unfoldable pub side_byte : List ℕ → ℕ
side_byte s = get_or (trailer s) 8 0

unfoldable pub padded : List ℕ → Bool
padded s = three_zeros (drop 9 (trailer s))

unfoldable pub sum_noted : List ℕ → ℕ
sum_noted s = from_four (drop 12 (trailer s))

unfoldable pub start : List ℕ → ℕ
start s = length s - 16 - trailer_distance s

-- The bytes from the first record on.
unfoldable pub records : List ℕ → List ℕ
records s = drop (start s) s

-- The refusals of some bytes, in order.
unfoldable pub sheet_faults : List ℕ → List Row
sheet_faults s =
    31 when ltb (length s) 16
    ∷ 32 when (not (eqb (trailer_distance s) (8 * number s)) || ltb (length s - 16) (trailer_distance s))
    ∷ 33 when (ltb 1 (side_byte s) || not (padded s))
    ∷ 34 when not (eqb (run (side_byte s) (number s) (records s)) (number s))
    ∷ 35 when not (eqb (sum_noted s) (sum (take (8 * number s) (records s)) % 4294967296))
    ∷ []

pub data End : Type 0 where
  sheet : List ℕ → Sheet → End
  refused : ℕ → End

unfoldable pub end_of : List ℕ → End
end_of s =
    refusing (sheet_faults s) refused
    (sheet (take (start s) s) (record { side = side_byte s; entries = entries_of (number s) (records s) }))

-- A good sheet: where its records start, how many there are, and the side. Or the number of a refusal.
pub data Reading : Type 0 where
  Good : ℕ → ℕ → ℕ → Reading
  Refused : ℕ → Reading

-- What a reader's answer says.
abbrev pub read_as : Result Found Refusal → Reading
read_as (Ok found) = Good found.start found.records found.side
read_as (Err refusal) = Refused (refusal_number refusal)

-- What a reader is told: where the records start, how many there are, and the side.
abbrev pub reading_of : End → Reading
reading_of (sheet before sh) = Good (length before) (length sh.entries) sh.side
reading_of (refused n) = Refused n

unfoldable pub read_sheet : List ℕ → Reading
read_sheet s = reading_of (end_of s)

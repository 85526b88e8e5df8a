-- A side sheet (document 02, request 02), as data and as bytes.
use Rattle.std.specs.Prelude.{◌+◌, ◌*◌, ◌/◌, ◌%◌, ◌∷◌, ◌++◌}
use Rattle.rules.specs.Common.{ℕ, List, [], length}
use Rattle.rules.specs.Lists.{sum}

-- A number modulo 2^32 as four bytes, least significant byte first.
unfoldable pub four : ℕ → List ℕ
four n = n % 256 ∷ n / 256 % 256 ∷ n / 65536 % 256 ∷ n / 16777216 % 256 ∷ []

-- A sheet as data: a side (0 left, 1 right), and an entry for each frame. An entry is the frame's number,
-- plus 2^32 if the frame was heard.
pub record Sheet : Type 0 where
  pub side : ℕ
  pub entries : List ℕ

abbrev pub kind : ℕ → ℕ
kind e = e / 4294967296

unfoldable pub record_bytes : ℕ → ℕ → List ℕ
record_bytes side e = four e ++ (kind e ∷ side ∷ 0 ∷ 0 ∷ [])

abbrev pub records_of : ℕ → List ℕ → List ℕ
records_of side [] = []
records_of side (e ∷ es) = record_bytes side e ++ records_of side es

-- The trailer of n records whose bytes have this sum.
unfoldable pub trailer_of : ℕ → ℕ → ℕ → List ℕ
trailer_of n side total = four (8 * n) ++ (four n ++ (side ∷ 0 ∷ 0 ∷ 0 ∷ four total))

-- A sheet as it is in a file: its records, then the trailer.
abbrev pub sheet_bytes : Sheet → List ℕ
sheet_bytes sh = let records = records_of sh.side sh.entries in
    records ++ trailer_of (length sh.entries) sh.side (sum records)

-- The length of a sheet with n records.
abbrev pub sheet_size : ℕ → ℕ
sheet_size n = 8 * n + 16

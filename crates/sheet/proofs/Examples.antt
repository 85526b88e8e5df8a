-- Files read and mended by the definitions, as two computed lists. Assumes nothing.
use Rattle.std.specs.Prelude.{◌∷◌, ◌++◌, ◌≡◌}
use Rattle.rules.proofs.Common.{ℕ, List, [], map, refl, take, drop, set, replicate}
use Rattle.sheet.specs.Sheet.{four, record_bytes, trailer_of, sheet_bytes}
use Rattle.sheet.specs.End.{from_four, three_zeros, good_record, run, entry_of, entries_of, trailer_distance, number}
use Rattle.sheet.specs.End.{side_byte, padded, sum_noted, start, records, sheet_faults, end_of, read_sheet}
use Rattle.sheet.specs.Mended.{kept, Mended, mended}
use Rattle.sheet.specs.End.{Good, Refused}

-- two bytes of audio, and a sheet of the right side: frame 300 silent, frame 301 heard
abbrev recording : List ℕ
recording = 77 ∷ 78 ∷ sheet_bytes (record { side = 1; entries = 300 ∷ 4294967597 ∷ [] })

-- its 34 bytes
contents : recording
    ≡ 77 ∷ 78
    ∷ 44 ∷ 1 ∷ 0 ∷ 0 ∷ 0 ∷ 1 ∷ 0 ∷ 0
    ∷ 45 ∷ 1 ∷ 0 ∷ 0 ∷ 1 ∷ 1 ∷ 0 ∷ 0
    ∷ 16 ∷ 0 ∷ 0 ∷ 0 ∷ 2 ∷ 0 ∷ 0 ∷ 0 ∷ 1 ∷ 0 ∷ 0 ∷ 0 ∷ 94 ∷ 0 ∷ 0 ∷ 0 ∷ []
unfolding record_bytes trailer_of four
contents = refl

-- empty; the sheet without records; the recording, whole, without its audio and without a byte of its records; with
-- another number of records, another side in the trailer and a third, another side in a record, another frame, and
-- another byte of audio
examples : map read_sheet
    ([] ∷ replicate 16 0 ∷ recording ∷ drop 2 recording ∷ drop 3 recording ∷ set recording 22 3 ∷ set recording 26 0
    ∷ set recording 26 2 ∷ set recording 15 0 ∷ set recording 2 45 ∷ set recording 0 0 ∷ [])
    ≡ Refused 31 ∷ Good 0 0 0 ∷ Good 2 2 1 ∷ Good 0 2 1 ∷ Refused 32 ∷ Refused 32 ∷ Refused 34 ∷ Refused 33 ∷ Refused 34
    ∷ Refused 35 ∷ Good 2 2 1 ∷ []
unfolding record_bytes trailer_of four read_sheet end_of sheet_faults trailer_distance number side_byte padded
    three_zeros
    sum_noted start records from_four run good_record entries_of entry_of
examples = refl

-- what mending gives of a file and a place: how many records, and the file
abbrev shown : Mended → ℕ × List ℕ
shown m = (m.records, m.bytes)

-- the recording without its trailer's last byte, cut within its second record, and with a second record of the left
-- side; whole, but asked at another place; and the known limit: the first half of the trailer of a sheet without
-- records looks like a silent frame 0 of the left side
mendings : map shown (mended (take 33 recording) 2 ∷ mended (take 17 recording) 2 ∷ mended (set recording 15 0) 2
    ∷ mended recording 10 ∷ mended (replicate 8 0) 0 ∷ [])
    ≡ (2, recording)
    ∷ (1, take 10 recording ++ 8 ∷ 0 ∷ 0 ∷ 0 ∷ 1 ∷ 0 ∷ 0 ∷ 0 ∷ 1 ∷ 0 ∷ 0 ∷ 0 ∷ 46 ∷ 0 ∷ 0 ∷ 0 ∷ [])
    ∷ (1, take 10 recording ++ 8 ∷ 0 ∷ 0 ∷ 0 ∷ 1 ∷ 0 ∷ 0 ∷ 0 ∷ 1 ∷ 0 ∷ 0 ∷ 0 ∷ 46 ∷ 0 ∷ 0 ∷ 0 ∷ [])
    ∷ (1, take 18 recording ++ 8 ∷ 0 ∷ 0 ∷ 0 ∷ 1 ∷ 0 ∷ 0 ∷ 0 ∷ 1 ∷ 0 ∷ 0 ∷ 0 ∷ 48 ∷ 0 ∷ 0 ∷ 0 ∷ [])
    ∷ (1, replicate 8 0 ++ 8 ∷ 0 ∷ 0 ∷ 0 ∷ 1 ∷ 0 ∷ 0 ∷ 0 ∷ 0 ∷ 0 ∷ 0 ∷ 0 ∷ 0 ∷ 0 ∷ 0 ∷ 0 ∷ [])
    ∷ []
unfolding record_bytes trailer_of four read_sheet end_of sheet_faults trailer_distance number side_byte padded
    three_zeros
    sum_noted start records from_four run good_record entries_of entry_of kept mended
mendings = refl

-- Seals and heads by the definitions, as computed lists. Assumes nothing.
use Rattle.std.specs.Prelude.{◌∷◌, ◌++◌, ◌≡◌}
use Rattle.rules.proofs.Common.{ℕ, List, [], map, refl, take, drop, set}
use Rattle.rules.specs.Loop.{loop}
use Rattle.rules.specs.Tab.{tab}
use Rattle.checksum.specs.Checksum.{table, crc, crc32}
use Rattle.sheet.specs.Sheet.{four}
use Rattle.sheet.specs.End.{from_four}
use Rattle.wav.specs.Seal.{said, seal_of, seal_faults, seal_read}
use Rattle.wav.specs.Chunks.{from_two, front_of, tag_in, format_of, format_faults, formatted, chunk_of, step_of, unread}
use Rattle.wav.specs.Head.{head_of}
use Rattle.wav.specs.Laws.{follow}
use Rattle.sides.specs.declared.Side.TheVariants.{Right}
use Rattle.wav.specs.declared.seal.Word.TheVariants.{Ends}
use Rattle.wav.specs.declared.seal.Seal.{Seal}
use Rattle.wav.specs.Seal as reading
use Rattle.wav.specs.Chunks.{Audio, Refused}

-- the right side, 960 bytes of audio
abbrev right : Seal
right = record { side = Right; long = 960; short = 0xCBF43926 }

contents : seal_of Ends right
    ≡ 84 ∷ 85 ∷ 80 ∷ 80 ∷ 82 ∷ 71 ∷ 72 ∷ 84 ∷ 192 ∷ 3 ∷ 0 ∷ 0 ∷ 0 ∷ 0 ∷ 0 ∷ 0 ∷ 38 ∷ 57 ∷ 244 ∷ 203 ∷ 163 ∷ 115 ∷ 236
    ∷ 148 ∷ []
unfolding seal_of said four crc32 crc table tab loop
contents = refl

-- the seal; without its last byte; with another letter, another length and another checksum
seals : map (seal_read Ends)
    (seal_of Ends right ∷ take 23 (seal_of Ends right) ∷ set (seal_of Ends right) 0 83 ∷ set (seal_of Ends right) 4 76
    ∷ set (seal_of Ends right) 8 0 ∷ set (seal_of Ends right) 23 0 ∷ [])
    ≡ reading.Whole right ∷ reading.Refused 51 ∷ reading.Refused 51 ∷ reading.Refused 52 ∷ reading.Refused 52
    ∷ reading.Refused 52 ∷ []
unfolding seal_read seal_faults from_four seal_of said four crc32 crc table tab loop
seals = refl

-- the head of three bytes of audio at 48 kHz, with 56 bytes of chunks behind them
head : head_of 48000 3 56
    ≡ 82 ∷ 73 ∷ 70 ∷ 70 ∷ 96 ∷ 0 ∷ 0 ∷ 0 ∷ 87 ∷ 65 ∷ 86 ∷ 69 ∷ 102 ∷ 109 ∷ 116 ∷ 32 ∷ 16 ∷ 0 ∷ 0 ∷ 0 ∷ 1 ∷ 0 ∷ 1 ∷ 0
    ∷ 128 ∷ 187 ∷ 0 ∷ 0 ∷ 0 ∷ 119 ∷ 1 ∷ 0 ∷ 2 ∷ 0 ∷ 16 ∷ 0 ∷ 100 ∷ 97 ∷ 116 ∷ 97 ∷ 3 ∷ 0 ∷ 0 ∷ 0 ∷ []
unfolding head_of four
head = refl

-- the head; another first letter; the file cut within the format; no format; a format of 14 bytes; of 8 bits; of no
-- channel, and of 65; of two channels with one's bytes
heads : map (λ (file : List ℕ). follow 3 file unread)
    (head_of 48000 3 56 ∷ set (head_of 48000 3 56) 3 88 ∷ take 30 (head_of 48000 3 56)
    ∷ (take 12 (head_of 48000 3 56) ++ drop 36 (head_of 48000 3 56)) ∷ set (head_of 48000 3 56) 16 14
    ∷ set (head_of 48000 3 56) 34 8 ∷ set (head_of 48000 3 56) 22 0 ∷ set (head_of 48000 3 56) 22 65
    ∷ set (head_of 48000 3 56) 22 2 ∷ [])
    ≡ Audio (record { place = 44; format = 16; channels = 1; rate = 48000; size = 3 })
    ∷ Refused 41 ∷ Refused 42 ∷ Refused 43 ∷ Refused 44 ∷ Refused 45 ∷ Refused 46 ∷ Refused 46 ∷ Refused 47 ∷ []
unfolding follow step_of front_of chunk_of formatted format_faults tag_in format_of from_two from_four head_of four
heads = refl

-- The head of a WAV file with one channel of 16 bits.
use Rattle.std.specs.Prelude.{◌+◌, ◌*◌, ◌%◌, ◌∷◌, ◌++◌}
use Rattle.rules.specs.Common.{ℕ, min, not, List, [], eqb, length}
use Rattle.rules.specs.Leaf.{◌leaving◌}
use Rattle.rules.specs.Refusals.{◌when◌, refusing}
use Rattle.sheet.specs.Sheet.{four}
use Rattle.wav.specs.Chunks.{RIFF, WAVE, FMT, DATA}

-- RIFF's size: the rest of the head, the audio filled up to an even number of bytes, and the chunks behind
-- it; at most what 32 bits can hold.
abbrev pub riff_size : ℕ → ℕ → ℕ
riff_size size behind = min (36 + size + size % 2 + behind) 4294967295

-- Format 1, one channel, the rate, bytes a second, 2 bytes a sample, 16 bits.
unfoldable pub head_of : ℕ → ℕ → ℕ → List ℕ
head_of rate size behind =
    four RIFF ++ (four (riff_size size behind) ++ (four WAVE ++ (four FMT ++ (four 16
    ++ (1 ∷ 0 ∷ 1 ∷ 0 ∷ four rate ++ (four (2 * rate) ++ (2 ∷ 0 ∷ 16 ∷ 0 ∷ four DATA ++ four size)))))))

unfoldable pub head_written : ℕ → ℕ → ℕ → List ℕ → ℕ × List ℕ
head_written rate size behind out =
    refusing (5 when not (eqb (length out) 44) ∷ []) (λ n. n leaving out) (0 leaving head_of rate size behind)

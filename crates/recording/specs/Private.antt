-- For the contracts of private functions.
use Rattle.std.specs.Prelude.{◌+◌, ◌%◌, ◌<◌, ◌++◌, ◌≡◌}
use Rattle.rules.specs.Common.{ℕ, Bool, false, cond, List}
use Rattle.rules.specs.Lists.{sum}
use Rattle.sheet.specs.Sheet.{four}
use Rattle.recording.specs.Recording.{frames_of, SIDE, contents}
use Rattle.recording.specs.declared.Said.{Said}
use Rattle.recording.specs.declared.Judge.{Judge}

-- The name and the size of the chunk after the audio.
abbrev pub name_for : ℕ → ℕ → List ℕ
name_for first size = four SIDE ++ four (contents (frames_of first size))

-- What is known with one frame more, which has this record.
abbrev pub counting : Said → List ℕ → Bool → Said
counting s bytes heard = record {
  front = s.front;
  size = s.size;
  crc = s.crc;
  count = (s.count + 1) % 4294967296;
  sum = (s.sum + sum bytes) % 4294967296;
  heard = (s.heard + cond heard 1 0) % 4294967296;
}

-- The next n bytes are audio, and more audio follows.
pub record Within (j : Judge) (n : ℕ) : Type 0 where
  pub right : j.wrong ≡ false
  pub part : j.part ≡ 62
  pub room : j.got + n < j.said.size

abbrev pub AllAudio : Judge → ℕ → Type 0
AllAudio j n = 0 < n → Within j n

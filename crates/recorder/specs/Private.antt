-- What the private functions promise and ask for.
use Rattle.std.specs.Prelude.{◌+◌, ◌/◌, ◌%◌, ◌^◌, ◌≤◌, ◌<◌}
use Rattle.rules.specs.Common.{ℕ, List, length}
use Rattle.rules.specs.Lists.{sum}
use Rattle.checksum.specs.Checksum.{crc32}
use Rattle.recorder.specs.Recorder.{LONGEST, FRAMES}
use Rattle.recorder.specs.declared.Recorder.{Recorder}

-- with these bytes of audio
abbrev pub with_audio : Recorder → ℕ → List ℕ → List ℕ → Recorder
with_audio r taken audio records = record {
  front = r.front;
  taken = r.taken + taken;
  size = r.size + length audio;
  crc = crc32 r.crc audio;
  count = r.count + length records / 8;
  sum = (r.sum + sum records) % 4294967296;
}

-- so many bytes of audio and of records find room
pub record Within (r : Recorder) (taken audio records : ℕ) : Type 0 where
  pub samples : r.taken + taken ≤ LONGEST
  pub bytes : r.size + audio < 2 ^ 32
  pub frames : r.count + records / 8 ≤ FRAMES

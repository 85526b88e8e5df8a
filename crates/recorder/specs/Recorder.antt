-- A recording while it is being made. A bench gives bytes and records, feed by feed. The recorder says which of these
-- bytes belong to the recording, and carries the
-- numbers on that its seal and its trailer say at the end.
use Rattle.std.specs.Prelude.{◌+◌, ◌-◌, ◌*◌, ◌/◌, ◌%◌, ◌&&◌, ◌||◌, ◌∷◌, ◌++◌}
use Rattle.rules.specs.Common.{ℕ, zero, suc, min, Bool, true, cond, not, List, []}
use Rattle.rules.specs.Common.{eqb, ltb, length, take, drop}
use Rattle.rules.specs.Lists.{sum}
use Rattle.rules.specs.Refusals.{Row, ◌when◌, wrong}
use Rattle.checksum.specs.Checksum.{crc32}
use Rattle.sides.specs.Sides.{number_of}
use Rattle.sheet.specs.End.{from_four, good_record}
use Rattle.recording.specs.Recording.{frames_of}
use Rattle.recording.specs.Verdict.{is_size}
use Rattle.recording.specs.declared.Front.{Front}
use Rattle.recorder.specs.declared.Recorder.{Recorder}

-- nothing is in it yet
abbrev pub beginning : Front → Recorder
beginning f = record { front = f; taken = 0; size = 0; crc = 0; count = 0; sum = 0 }

-- ---- which bytes belong to it

-- the number of the next frame, before it is cut to 32 bits
abbrev pub next_frame : Recorder → ℕ
next_frame r = r.front.first + r.count

-- the first frame after an opening, number 0, gives no audio: its 480 samples, of two bytes each, are dropped
abbrev pub skip_of : Recorder → ℕ
skip_of r = cond (eqb (next_frame r) 0) 960 0

-- how many bytes there still can be, if so many more samples were taken in: two for each sample
abbrev pub room_of : Recorder → ℕ → ℕ
room_of r taken = 2 * (r.taken + taken) - r.size

-- of the bytes that a feed gave, those that belong to the recording
unfoldable pub belonging : Recorder → ℕ → List ℕ → List ℕ
belonging r taken cleaned = take (room_of r taken) (drop (skip_of r) cleaned)

-- where they begin, in so many bytes
abbrev pub start_of : Recorder → ℕ → ℕ
start_of r bytes = min (skip_of r) bytes

-- ---- its records

-- these bytes begin with the record of a frame with this number, of this side
unfoldable pub is_record : ℕ → ℕ → List ℕ → Bool
is_record side number s = eqb (from_four s) (number % 4294967296) && good_record side s

-- and so do n records in a row, numbered on
unfoldable pub are_records : ℕ → ℕ → ℕ → List ℕ → Bool
are_records side number zero s = true
are_records side number (suc n) s = is_record side number s && are_records side (number + 1) n (drop 8 s)

-- ---- with what one feed gave

unfoldable pub with_feed : Recorder → ℕ → List ℕ → List ℕ → Recorder
with_feed r taken cleaned records =
    let audio = belonging r taken cleaned in
    record {
      front = r.front;
      taken = r.taken + taken;
      size = r.size + length audio;
      crc = crc32 r.crc audio;
      count = r.count + length records / 8;
      sum = (r.sum + sum records) % 4294967296;
    }

-- the most samples and the most frames that a recording can have
abbrev pub LONGEST : ℕ
LONGEST = 2129735520

abbrev pub FRAMES : ℕ
FRAMES = 4436950

abbrev pub too_long : Recorder → ℕ → ℕ → Bool
too_long r taken n = ltb LONGEST (r.taken + taken) || ltb FRAMES (r.count + n)

-- what refuses it: a feed gives a record of 8 bytes and 960 bytes of audio for each frame; the recording would be too
-- long; these are not the records of the next frames
abbrev pub more_rows : Recorder → ℕ → List ℕ → List ℕ → List Row
more_rows r taken cleaned records =
    let n = length records / 8 in
    5 when wrong ((length records, 8 * n) ∷ (length cleaned, 960 * n) ∷ [])
    ∷ 67 when too_long r taken n
    ∷ 68 when not (are_records (number_of r.front.side) (next_frame r) n records)
    ∷ []

-- ---- its end

-- how many samples of silence the bench must still be fed, so that all that was taken in comes out: a frame's samples
-- come out with the next frame
abbrev pub closing_of : Recorder → ℕ
closing_of r = cond (eqb r.taken 0) 0 (480 * ((r.taken + 479) / 480 + 1) - r.taken)

-- what refuses to close it: it has no audio, or not as many frames as its audio takes
abbrev pub close_rows : Recorder → List Row
close_rows r = 69 when not (is_size r.size) ∷ 70 when not (eqb r.count (frames_of r.front.first r.size)) ∷ []

-- the bench goes on in the next recording, with the next frame. What was taken in and is not yet written belongs to
-- that one
abbrev pub next_first : Recorder → ℕ
next_first r = next_frame r % 4294967296

unfoldable pub following : Recorder → ℕ → Recorder
following r began = record {
  front = record { side = r.front.side; began = began; first = next_first r };
  taken = r.taken - r.size / 2;
  size = 0;
  crc = 0;
  count = 0;
  sum = 0;
}

-- what refuses that: it cannot be closed, it ends within a frame, or the next frame has number 0, which is an opening's
abbrev pub next_rows : Recorder → List Row
next_rows r = close_rows r ++ (71 when (not (eqb (r.size % 960) 0) || eqb (next_first r) 0) ∷ [])

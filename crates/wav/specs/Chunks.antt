-- The head of a WAV file, read chunk by chunk: what the next step of a reading finds in the file's bytes from
-- a place on. Four letters are read as a number, least significant byte first.
use Rattle.std.specs.Prelude.{Result, Ok, Err, ◌+◌, ◌*◌, ◌/◌, ◌%◌, ◌&&◌, ◌||◌, ◌∷◌}
use Rattle.rules.specs.Common.{ℕ, min, cond, not, List, [], eqb, ltb, length}
use Rattle.rules.specs.Common.{get_or, drop}
use Rattle.rules.specs.Leaf.{◌leaving◌}
use Rattle.rules.specs.Refusal.{refusal_number}
use Rattle.rules.specs.declared.refusal.Refusal.{Refusal}
use Rattle.rules.specs.Refusals.{Row, ◌when◌, refusing}
use Rattle.sheet.specs.End.{from_four}
use Rattle.wav.specs.declared.chunks.Head.{Head}
use Rattle.wav.specs.declared.chunks.Next.{Next}
use Rattle.wav.specs.declared.chunks.Next.TheVariants.{Found, More}

-- What a step comes to: the audio was found, or the reading goes on, or it is refused.
pub data Step : Type 0 where
  Audio : Head → Step
  On : Head → Step
  Refused : ℕ → Step

-- The letters "RIFF", "WAVE", "fmt " and "data".
abbrev pub RIFF : ℕ
RIFF = 0x46464952

abbrev pub WAVE : ℕ
WAVE = 0x45564157

abbrev pub FMT : ℕ
FMT = 0x20746D66

abbrev pub DATA : ℕ
DATA = 0x61746164

-- The number that the first two bytes are.
unfoldable pub from_two : List ℕ → ℕ
from_two s = get_or s 0 0 + 256 * get_or s 1 0

-- ---- the file's first bytes

abbrev pub unread : Head
unread = record { place = 0; format = 0; channels = 0; rate = 0; size = 0 }

unfoldable pub front_of : List ℕ → Step
front_of s =
    refusing (41 when (ltb (length s) 12 || (not (eqb (from_four s) RIFF) || not (eqb (from_four (drop 8 s)) WAVE)))
    ∷ [])
    Refused
    (On (record { place = 12; format = 0; channels = 0; rate = 0; size = 0 }))

-- ---- a chunk: its name, its size, its contents, and a byte more where these are odd

abbrev pub past_chunk : ℕ → Head → Head
past_chunk size h =
    record {
      place = h.place + 8 + size + size % 2;
      format = h.format;
      channels = h.channels;
      rate = h.rate;
      size = h.size;
    }

-- The tag of a format. An extensible format, 65534, has its tag further on.
unfoldable pub tag_in : ℕ → List ℕ → ℕ
tag_in size s = let tag = from_two (drop 8 s) in cond (eqb tag 65534) (cond (ltb size 26) 0 (from_two (drop 32 s))) tag

-- The format: 16 or 24 for whole numbers of that many bits (tag 1), 33 for whole numbers of 32 bits, 32 for
-- floats of 32 bits (tag 3), and 0 for anything else.
unfoldable pub format_of : ℕ → ℕ → ℕ
format_of tag bits =
    cond (eqb tag 1) (cond (eqb bits 16) 16 (cond (eqb bits 24) 24 (cond (eqb bits 32) 33 0)))
    (cond (eqb tag 3) (cond (eqb bits 32) 32 0) 0)

abbrev pub format_in : ℕ → List ℕ → ℕ
format_in size s = format_of (tag_in size s) (from_two (drop 22 s))

abbrev pub channels_in : List ℕ → ℕ
channels_in s = from_two (drop 10 s)

-- The refusals of the chunk `fmt `, in order.
unfoldable pub format_faults : List ℕ → ℕ → List Row
format_faults s size =
    42 when ltb (length s) (8 + min size 26)
    ∷ 44 when ltb size 16
    ∷ 45 when eqb (format_in size s) 0
    ∷ 46 when (eqb (channels_in s) 0 || ltb 64 (channels_in s))
    ∷ 47 when not (eqb (from_two (drop 20 s)) (channels_in s * (format_in size s / 8)))
    ∷ []

unfoldable pub formatted : List ℕ → ℕ → Head → Step
formatted s size h =
    refusing (format_faults s size) Refused
    (On
    (past_chunk size
    (record {
      place = h.place;
      format = format_in size s;
      channels = channels_in s;
      rate = from_four (drop 12 s);
      size = 0;
    })))

-- A chunk is the audio, or the first `fmt `, or another one, which is skipped.
unfoldable pub chunk_of : List ℕ → Head → Step
chunk_of s h =
    let name = from_four s in
    let size = from_four (drop 4 s) in
    refusing (42 when (ltb (length s) 8 || ltb 9223372036854775807 h.place) ∷ []) Refused
    (cond (eqb name DATA)
    (refusing (43 when eqb h.format 0 ∷ []) Refused
    (Audio (record { place = h.place + 8; format = h.format; channels = h.channels; rate = h.rate; size = size })))
    (cond (eqb name FMT && eqb h.format 0) (formatted s size h) (On (past_chunk size h))))

-- ---- a step of a reading

unfoldable pub step_of : List ℕ → Head → Step
step_of s h = cond (eqb h.place 0) (front_of s) (chunk_of s h)

-- The step that an outcome is.
abbrev pub step_with : Next → Head → Step
step_with Found h = Audio h
step_with More h = On h

abbrev pub step_as : Result (Next × Head) Refusal → Step
step_as (Ok found) = step_with found.0 found.1
step_as (Err refusal) = Refused (refusal_number refusal)

-- The number of an outcome: 0 if the audio was found, 40 if the host should call again.
abbrev pub next_number : Next → ℕ
next_number Found = 0
next_number More = 40

abbrev pub next_told : Result Next Refusal → ℕ
next_told (Ok next) = next_number next
next_told (Err refusal) = refusal_number refusal

-- Where a reading is, as the numbers that a host keeps.
abbrev pub head_from : List ℕ → Head
head_from ns =
    record {
      place = get_or ns 0 0;
      format = get_or ns 1 0;
      channels = get_or ns 2 0;
      rate = get_or ns 3 0;
      size = get_or ns 4 0;
    }

abbrev pub head_numbers : Head → List ℕ
head_numbers h = h.place ∷ h.format ∷ h.channels ∷ h.rate ∷ h.size ∷ []

-- 0 if the audio was found, 40 if the host should call again.
abbrev pub step_numbers : Step → List ℕ → ℕ × List ℕ
step_numbers (Audio h) ns = 0 leaving head_numbers h
step_numbers (On h) ns = 40 leaving head_numbers h
step_numbers (Refused n) ns = n leaving ns

unfoldable pub step_told : List ℕ → List ℕ → ℕ × List ℕ
step_told s ns =
    refusing (5 when not (eqb (length ns) 5) ∷ []) (λ n. n leaving ns) (step_numbers (step_of s (head_from ns)) ns)

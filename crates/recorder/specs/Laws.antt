-- What is claimed of a recorder. The proofs are in proofs/: Goods, GoesOn, Whole.
use Rattle.recording.specs.Verdict.{told_as}
use Rattle.std.specs.Prelude.{◌⊎◌, ◌+◌, ◌*◌, ◌/◌, ◌^◌, ◌≤◌, ◌<◌, ◌∷◌, ◌++◌, ◌≡◌}
use Rattle.rules.specs.Common.{ℕ, List, [], length, get_or, take}
use Rattle.rules.specs.Common.{drop}
use Rattle.rules.specs.Leaf.{◌leaving◌}
use Rattle.rules.specs.Lists.{Bytes}
use Rattle.rules.specs.Refusals.{refusing}
use Rattle.sides.specs.Sides.{number_of}
use Rattle.sheet.specs.Sheet.{records_of}
use Rattle.recording.specs.Recording.{Recording, entries_from, recording_bytes, Good}
use Rattle.recording.specs.Verdict.{heard_in, how_many, verdict_of}
use Rattle.recording.specs.Numbers.{side_at}
use Rattle.recording.specs.declared.Front.{Front}
use Rattle.recorder.specs.Recorder.{beginning, skip_of, room_of, belonging, with_feed, next_rows, following}
use Rattle.recorder.specs.Numbers.{begun_laid, more_laid, finish_laid}
use Rattle.recorder.specs.declared.Recorder.{Recorder}

-- what a call of `more` is given: how many samples of the stream the feed took in, the bytes that it gave, and its
-- records
pub record Given : Type 0 where
  pub taken : ℕ
  pub cleaned : List ℕ
  pub records : List ℕ

abbrev pub GivenBytes : List Given → Type 0
GivenBytes [] = Unit
GivenBytes (g ∷ gs) = Bytes g.cleaned × Bytes g.records × GivenBytes gs

-- ---- what a host writes is a good recording, whatever it was given

-- calls of `more`, each with the numbers that the one before left, and none refused. Of the bytes of each call the host
-- writes the part that it was told, and it writes all records: these are both in a row. And the numbers at the end
pub data Calls : List ℕ → List Given → List ℕ → List ℕ → List ℕ → Type 0 where
  none : (ns : List ℕ) → Calls ns [] [] [] ns
  more : (g : Given) (ns part ns' place : List ℕ) {gs : List Given} {audio records end : List ℕ}
      → (0 leaving ns' leaving place) ≡ more_laid g.taken g.cleaned g.records ns part
      → Calls ns' gs audio records end
      → Calls ns (g ∷ gs) (take (get_or place 1 0) (drop (get_or place 0 0) g.cleaned) ++ audio) (g.records ++ records)
      end

-- a recording from `begin` to `finish`, by calls of which none was refused
pub record WrittenWhole (side began first : ℕ) (gs : List Given) (audio records head chunk trailer : List ℕ) : Type 0
  where
    -- what the buffers held before they were written to
    pub lent : List ℕ
    pub lent_head : List ℕ
    pub lent_chunk : List ℕ
    pub lent_trailer : List ℕ
    -- the numbers after `begin`, and before `finish`
    pub numbers : List ℕ
    pub last : List ℕ
    pub begins : (0 leaving numbers) ≡ begun_laid side began first lent
    pub goes : Calls numbers gs audio records last
    pub ends : (0 leaving head leaving chunk leaving trailer) ≡ finish_laid last lent_head lent_chunk lent_trailer

-- the recording with this front, this audio and these records
abbrev pub recording_of : Front → List ℕ → List ℕ → Recording
recording_of front audio records = record {
  front = front;
  audio = audio;
  heard = heard_in (length records / 8) records;
}

-- a file is the good recording with this front, this audio and these records, and so it is told
pub record IsGood (front : Front) (audio records file : List ℕ) : Type 0 where
  pub good : Good (recording_of front audio records)
  pub bytes : file ≡ recording_bytes (recording_of front audio records)
  -- each record says the side, and they are numbered from the first frame's on
  pub noted : records ≡ records_of (number_of front.side) (entries_from front.first (recording_of front audio records
      ).heard)
  pub told : verdict_of file
      ≡ told_as front (length (recording_of front audio records).heard)
      (how_many (recording_of front audio records).heard)

-- head, audio, what is between, records and trailer in a row are such a file: no calls that are accepted write another
abbrev pub AlwaysGood : Type 0
AlwaysGood =
    (side began first : ℕ) (gs : List Given) (audio records head chunk trailer : List ℕ) → began < 2 ^ 64 → first < 2 ^
    32
    → GivenBytes gs → WrittenWhole side began first gs audio records head chunk trailer
    → IsGood (record { side = side_at side; began = began; first = first }) audio records
    (head ++ (audio ++ (chunk ++ (records ++ trailer))))

-- ---- calls in a row, by the definition alone

abbrev pub after : Recorder → List Given → Recorder
after r [] = r
after r (g ∷ gs) = after (with_feed r g.taken g.cleaned g.records) gs

abbrev pub audio_of : Recorder → List Given → List ℕ
audio_of r [] = []
audio_of r (g ∷ gs) = belonging r g.taken g.cleaned ++ audio_of (with_feed r g.taken g.cleaned g.records) gs

abbrev pub taken_in : List Given → ℕ
taken_in [] = 0
taken_in (g ∷ gs) = g.taken + taken_in gs

abbrev pub cleaned_of : List Given → List ℕ
cleaned_of [] = []
cleaned_of (g ∷ gs) = g.cleaned ++ cleaned_of gs

abbrev pub given_records : List Given → List ℕ
given_records [] = []
given_records (g ∷ gs) = g.records ++ given_records gs

-- each call has 960 bytes for each record
abbrev pub Frames : List Given → Type 0
Frames [] = Unit
Frames (g ∷ gs) = (length g.cleaned ≡ 960 * (length g.records / 8)) × Frames gs

-- what a host writes by calls that are accepted is what the definition says of what it was given
abbrev pub AsDefined : Type 0
AsDefined =
    (side began first : ℕ) (gs : List Given) (audio records head chunk trailer : List ℕ) → first < 2 ^ 32 → GivenBytes
    gs
    → WrittenWhole side began first gs audio records head chunk trailer
    → (audio ≡ audio_of (beginning (record { side = side_at side; began = began; first = first })) gs) × (records ≡
    given_records gs) × Frames gs

-- a bench that goes on in a next recording: the audio of both, in a row, is that of one recording
abbrev pub CutGoesOn : Type 0
CutGoesOn =
    (f : Front) (gs gs' : List Given) (began : ℕ)
    → let r = after (beginning f) gs in refusing (next_rows r) (λ n. n) 0 ≡ 0
    → audio_of (beginning f) (gs ++ gs') ≡ audio_of (beginning f) gs ++ audio_of (following r began) gs'

-- nothing comes out before it was taken in: what a call gives finds room, or nothing more is taken in after it
abbrev pub InTime : Recorder → List Given → Type 0
InTime r [] = Unit
InTime r (g ∷ gs) =
    ((length (drop (skip_of r) g.cleaned) ≤ room_of r g.taken) ⊎ (taken_in gs ≡ 0))
    × InTime (with_feed r g.taken g.cleaned g.records) gs

-- then the audio does not depend on how the output is cut into calls: it is all output without the first frame's, as
-- many
-- samples as were taken in
abbrev pub HoweverGiven : Type 0
HoweverGiven =
    (r : Recorder) (gs : List Given) → r.size ≤ 2 * r.taken → Frames gs → InTime r gs
    → audio_of r gs ≡ take (room_of r (taken_in gs)) (drop (skip_of r) (cleaned_of gs))

-- From the microphone to the clerk: what is claimed. The proof is in proofs/Delivered.antt.
--
-- A bench is opened, and its stream is fed in blocks of any size, with silence after it. What its feeds return is
-- handed
-- to a recorder, in order, and what the recorder says is written in a row. This is a file: a clerk is told it as the
-- bench's own side, and it holds the dictation of the bench's own channel, whatever other benches do.
use Rattle.std.specs.Prelude.{◌*◌, ◌^◌, ◌<◌, ◌++◌, ◌≡◌}
use Rattle.rules.specs.Common.{ℕ, List, take, drop}
use Rattle.rules.specs.Place.{get}
use Rattle.sides.specs.Sides.{number_of}
use Rattle.desk.specs.Gate.{side_of, share_of}
use Rattle.dictation.specs.Dictation.{Dictated}
use Rattle.isolation.specs.Run.{On, State, record_at}
use Rattle.pcm.specs.Pcm.{packed}
use Rattle.recording.specs.Laws.{ToldOnly}
use Rattle.recording.specs.Numbers.{side_at}
use Rattle.recording.specs.declared.Front.{Front}
use Rattle.recorder.specs.Recorder.{beginning}
use Rattle.recorder.specs.Laws.{Given, GivenBytes, WrittenWhole, IsGood, taken_in, cleaned_of, given_records, InTime}
use Rattle.feed.specs.Feed.{block_of, samples_of}
use Rattle.surface.specs.Surface.{Call}
use Rattle.surface.specs.Cutting.{has_of, dictation_of, Streams}
use Rattle.surface.specs.Bytes.{SameChannel}

-- the front of a recording that begins with an opening's first frame
abbrev pub opening_front : ℕ → ℕ → Front
opening_front side began = record { side = side_at side; began = began; first = 0 }

-- what a host writes in a row
pub record File : Type 0 where
  pub head : List ℕ
  pub audio : List ℕ
  pub chunk : List ℕ
  pub records : List ℕ
  pub trailer : List ℕ

abbrev pub in_aRow : File → List ℕ
in_aRow f = f.head ++ (f.audio ++ (f.chunk ++ (f.records ++ f.trailer)))

-- a stream, in a run of any calls on n benches, and what is made of it
pub record Stream : Type 0 where
  -- the run: where it starts, and its calls, on any benches
  pub start : State
  pub calls : List (On Call)
  -- how the bench's blocks are recorded, and all their bytes, with the silence at the end
  pub format : ℕ
  pub channels : ℕ
  pub channel : ℕ
  pub model : List ℕ
  pub bytes : List ℕ
  -- what the host hands to the recorder, and the file that it writes
  pub given : List Given
  pub file : File

-- what the host does, for bench s: `side` is the number that it begins the recorder with
pub record RecordedRun (n s side began : ℕ) (x : Stream) : Type 0 where
  -- all calls of the bench that are done are feeds of the stream
  pub streams : Streams n s x.start x.calls x.format x.channels x.channel x.model x.bytes
  -- the bench was just opened: its next frame has number 0
  pub opened : (record_at s x.start).frame ≡ 0
  -- all bytes and all records that the bench's calls returned are handed in, in order, cut in any way
  pub handed : cleaned_of x.given ≡ (has_of n s x.start x.calls).cleaned
  pub noted : given_records x.given ≡ (has_of n s x.start x.calls).records
  pub bytes : GivenBytes x.given
  -- samples are counted no later than their output is handed in
  pub in_time : InTime (beginning (opening_front side began)) x.given
  -- none of the recorder's calls was refused, and this is what was written
  pub written : let f = x.file in WrittenWhole side began 0 x.given f.audio f.records f.head f.chunk f.trailer

-- the dictation of the bench's own channel
abbrev pub dictation : ℕ → Stream → Dictated
dictation s x =
    dictation_of (record_at s x.start) (get (share_of s) x.start.store)
    (samples_of (block_of x.bytes x.format x.channels x.channel)) x.model

-- what the clerk has
pub record Delivered (s side began : ℕ) (x : Stream) : Type 0 where
  -- the file is, byte for byte, a good recording, and so it is told: its side, when it began, how many frames
  pub good : IsGood (opening_front side began) x.file.audio x.file.records (in_aRow x.file)
  -- the side that is told is the bench's own. (If the host named the other side, a call was refused.)
  pub sided : number_of (opening_front side began).side ≡ side_of s
  -- the audio is what comes out of the bench's own channel: without the first frame's 480 samples, of two bytes each,
  -- and as
  -- many samples as were taken in
  pub audio : x.file.audio ≡ take (2 * taken_in x.given) (drop 960 (packed (dictation s x).out))

-- two streams that are the same for bench s: the same record and share where they start, and the same samples in its
-- channel
pub record SameStream (s : ℕ) (x y : Stream) : Type 0 where
  pub numbers : x.start.numbers s ≡ y.start.numbers s
  pub share : get (share_of s) x.start.store ≡ get (share_of s) y.start.store
  pub model : x.model ≡ y.model
  pub channel : SameChannel (block_of x.bytes x.format x.channels x.channel) (block_of y.bytes y.format
      y.channels y.channel)
  pub taken : taken_in x.given ≡ taken_in y.given

-- the whole claim
pub record FromMicrophoneToClerk : Type 0 where
  -- what is recorded is delivered
  pub delivered : (n s side began : ℕ) (x : Stream) → began < 2 ^ 64 → RecordedRun n s side began x → Delivered s side
      began x
  -- nothing that another bench does, and no choice of blocks, changes a byte of it
  pub undisturbed : (n s side began : ℕ) (x y : Stream) → began < 2 ^ 64 → RecordedRun n s side began x → RecordedRun n
      s side
      began y
      → SameStream s x y → in_aRow x.file ≡ in_aRow y.file
  -- and any file that is told as a side is, byte for byte, a good recording of that side
  pub only : ToldOnly

-- From the microphone to the clerk. Assumes nothing.
use Rattle.std.specs.Prelude.{◌*◌, ◌^◌, ◌<◌, ◌∷◌, ◌≡◌}
use Rattle.rules.proofs.Common.{ℕ, List, [], refl, sym, ap, ap₂, ◌∙◌, length}
use Rattle.rules.proofs.Common.{get_or, take, drop, Float}
use native.Mathlib.Omega.{arith}
use Rattle.rules.specs.Place.{get}
use Rattle.sides.specs.Sides.{number_of}
use Rattle.sheet.specs.Sheet.{four, record_bytes, records_of}
use Rattle.sheet.proofs.Laying.{length_records}
use Rattle.desk.specs.Gate.{side_of, share_of}
use Rattle.desk.specs.Surface.{record_in}
use Rattle.isolation.specs.Run.{record_at}
use Rattle.whole.specs.Whole.{answers_of}
use Rattle.recording.specs.Recording.{entries_from, recording_bytes}
use Rattle.recording.proofs.SaidBack.{length_entries}
use Rattle.recording.proofs.Told.{told_only}
use Rattle.recorder.specs.Recorder.{beginning, room_of}
use Rattle.recorder.specs.Laws.{recording_of, IsGood, audio_of, given_records, Frames, taken_in}
use Rattle.recorder.proofs.Goods.{always_good, as_defined}
use Rattle.recorder.proofs.Whole.{however_given}
use Rattle.feed.specs.Feed.{Block, block_of, samples_of, frame_entries}
use Rattle.surface.specs.Cutting.{Has, has_of, has_said}
use Rattle.surface.proofs.Bytes.{samples_alike}
use Rattle.surface.proofs.Cuts.{bytes_in_a_row}
use Rattle.clerk.specs.Clerk.{opening_front, File, in_aRow, Stream, RecordedRun, dictation, Delivered, SameStream}
use Rattle.clerk.specs.Clerk.{FromMicrophoneToClerk}

-- the sixth byte of a record is its side
sixth : (side : ℕ) (es : List ℕ) → 0 < length es → get_or (records_of side es) 5 0 ≡ side
unfolding record_bytes four
sixth side [] h = absurd (omega arith)
sixth side (e ∷ es) h = refl

module _ (n s side began : ℕ) (x : Stream) (time : began < 2 ^ 64) (k : RecordedRun n s side began x) where
  abbrev f : File
  f = x.file

  abbrev has : Has
  has = has_of n s x.start x.calls

  good : IsGood (opening_front side began) x.file.audio x.file.records (in_aRow x.file)
  good =
      always_good side began 0 x.given f.audio f.records f.head f.chunk f.trailer time (omega arith)
      k.bytes k.written

  defined : (x.file.audio ≡ audio_of (beginning (opening_front side began)) x.given)
      × (x.file.records ≡ given_records x.given) × Frames x.given
  defined =
      as_defined side began 0 x.given f.audio f.records f.head f.chunk f.trailer (omega arith)
      k.bytes k.written

  -- what the bench has is one dictation of its channel
  row : has_of n s x.start x.calls ≡ has_said (side_of s) (record_at s x.start) (get (share_of s) x.start.store)
      (samples_of (block_of x.bytes x.format x.channels x.channel)) x.model
  row = bytes_in_a_row n s x.start x.calls x.format x.channels x.channel x.model x.bytes k.streams

  audio_has : x.file.audio ≡ take (2 * taken_in x.given) (drop 960 (has_of n s x.start x.calls).cleaned)
  audio_has =
      let room : room_of (beginning (opening_front side began)) (taken_in x.given) ≡ 2 * taken_in x.given = omega
      arith in
      defined.0
      ∙ however_given (beginning (opening_front side began)) x.given (omega arith) defined.2 k.in_time
      ∙ ap₂ (λ (a : ℕ) (l : List ℕ). take a (drop 960 l)) room k.handed

  records_has : x.file.records ≡ (has_of n s x.start x.calls).records
  records_has = defined.1 ∙ k.noted

  abbrev theirs : List ℕ
  theirs = entries_from 0 (recording_of (opening_front side began) f.audio f.records).heard

  abbrev ours : List ℕ
  ours = frame_entries (record_at s x.start).frame (answers_of (dictation s x).told)

  some : 0 < length (entries_from 0 (recording_of (opening_front side began) x.file.audio x.file.records).heard)
  some =
      let heard = (recording_of (opening_front side began) f.audio f.records).heard in
      omega (arith, length_entries 0 heard, good.good.frames)

  both : records_of (number_of (opening_front side began).side) theirs ≡ records_of (side_of s) ours
  both = sym good.noted ∙ records_has ∙ ap (λ (h : Has). h.records) row

  many : length theirs ≡ length ours
  many =
      omega (
        arith,
        ap length both,
        length_records (number_of (opening_front side began).side) theirs,
        length_records (side_of
            s) ours,
      )

  side_is : number_of (opening_front side began).side ≡ side_of s
  side_is =
      sym (sixth (number_of (opening_front side began).side) theirs some)
      ∙ ap (λ (l : List ℕ). get_or l 5 0) both
      ∙ sixth (side_of s) ours (omega (arith, some, many))

  delivers : Delivered s side began x
  delivers = record {
    good = good;
    sided = side_is;
    audio = audio_has ∙ ap (λ (h : Has). take (2 * taken_in x.given) (drop 960 h.cleaned)) row;
  }

module _ (n s side began : ℕ) (x y : Stream) (time : began < 2 ^ 64) (k : RecordedRun n s side began x)
    (l : RecordedRun n s side began y) (e : SameStream s x y) where
  abbrev block : Stream → Block
  block z = block_of z.bytes z.format z.channels z.channel

  abbrev share : Stream → List Float
  share z = get (share_of s) z.start.store

  same_has : has_of n s x.start x.calls ≡ has_of n s y.start y.calls
  same_has =
      row n s side began x time k
      ∙ ap (λ (ns : List ℕ). has_said (side_of s) (record_in s ns) (share x) (samples_of (block x)) x.model) e.numbers
      ∙ ap (λ (sh : List Float). has_said (side_of s) (record_at s y.start) sh (samples_of (block x)) x.model) e.share
      ∙ ap (λ (xs : List Float). has_said (side_of s) (record_at s y.start) (share y) xs x.model)
      (samples_alike (block x) (block y) e.channel)
      ∙ ap (λ (m : List ℕ). has_said (side_of s) (record_at s y.start) (share y) (samples_of (block y)) m) e.model
      ∙ sym (row n s side began y time l)

  same_audio : x.file.audio ≡ y.file.audio
  same_audio =
      audio_has n s side began x time k
      ∙ ap₂ (λ (t : ℕ) (h : Has). take (2 * t) (drop 960 h.cleaned)) e.taken same_has
      ∙ sym (audio_has n s side began y time l)

  same_records : x.file.records ≡ y.file.records
  same_records =
      records_has n s side began x time k ∙ ap (λ (h : Has). h.records) same_has ∙ sym (records_has n s side began y
      time l)

  same_file : in_aRow x.file ≡ in_aRow y.file
  same_file =
      (good n s side began x time k).bytes
      ∙ ap₂ (λ (a r : List ℕ). recording_bytes (recording_of (opening_front side began) a r)) same_audio same_records
      ∙ sym (good n s side began y time l).bytes

pub from_microphone_to_clerk : FromMicrophoneToClerk
from_microphone_to_clerk = record { delivered = delivers; undisturbed = same_file; only = told_only }

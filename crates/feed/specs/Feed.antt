-- A block of recorded bytes in one call: a bench's own channel of it is unpacked, taken, and packed again, with a
-- record of the side sheet for each frame, which carries the bench's own side. By definition these one after the other;
-- what may refuse them is tested before anything changes, the lowest number first.
use Rattle.std.specs.Prelude.{◌+◌, ◌*◌, ◌/◌, ◌%◌, ◌&&◌, ◌∷◌}
use Rattle.rules.specs.Common.{ℕ, Bool, cond, not, List, [], eqb, leb, ltb, length}
use Rattle.rules.specs.Common.{Float}
use Rattle.std.specs.Float.Ieee.{eq}
use Rattle.rules.specs.F32.{f32, at}
use Rattle.rules.specs.Refusals.{Row, ◌when◌, refusing}
use Rattle.rules.specs.Tab.{tab}
use Rattle.frame.specs.Written.{Written, from, front, numbers_in, first_in}
use Rattle.frame.specs.Reply.{Refused}
use Rattle.pieces.specs.Pieces.{completes, piece_fits}
use Rattle.desk.specs.Answer.{Answer}
use Rattle.desk.specs.declared.Record.{Record}
use Rattle.desk.specs.Gate.{PIECE, side_of, gate}
use Rattle.frame.specs.Effect.{Effect, refusal}
use Rattle.whole.specs.Whole.{take}
use Rattle.pcm.specs.Pcm.{width, unpacked, packed}
use Rattle.sheet.specs.Sheet.{records_of}

-- ---- a block

-- bytes of a format with so many channels by turns, and the bench's own among them
pub record Block : Type 0 where
  pub bytes : List ℕ
  pub format : ℕ
  pub channels : ℕ
  pub channel : ℕ

abbrev pub block_of : List ℕ → ℕ → ℕ → ℕ → Block
block_of bytes format channels channel =
    record { bytes = bytes; format = format; channels = channels; channel = channel }

-- whole samples of all channels, and such a channel among them
abbrev pub whole_samples : ℕ → ℕ → ℕ → ℕ → Bool
whole_samples bytes format channels channel =
    ltb 0 (width format) && (leb channels 65535 && (ltb channel channels && eqb (bytes % (channels * width format)) 0))

-- how many samples of a channel there are in so many bytes; none where they are no block
unfoldable pub samples_in : ℕ → ℕ → ℕ → ℕ → ℕ
samples_in bytes format channels channel =
    cond (whole_samples bytes format channels channel) (bytes / (channels * width format)) 0

abbrev pub block_size : Block → ℕ
block_size b = samples_in (length b.bytes) b.format b.channels b.channel

abbrev pub samples_of : Block → List Float
samples_of b = unpacked (block_size b) b.bytes b.format b.channels b.channel

-- ---- what refuses it

-- nine frames, the most that a piece completes
abbrev pub ROOM : ℕ
ROOM = 4320

-- the gate's number, 1 to 4; then 5, but for 1 to 4,096 samples, and room for 960 bytes, a record of 8 bytes and three
-- answers of each frame that they complete. Behind these rows the take has 7 to 9
abbrev pub feed_rows : ℕ → ℕ → ℕ → ℕ → ℕ → ℕ → List Row
feed_rows number waiting size cleaned records answers =
    let frames = completes waiting size in
    number when not (eqb number 0)
    ∷ 5 when not (piece_fits waiting size ROOM 22)
    ∷ 5 when not (leb (960 * frames) cleaned)
    ∷ 5 when not (leb (8 * frames) records)
    ∷ 5 when not (leb (3 * frames) answers)
    ∷ []

-- ---- what it gives

-- a frame's entry in the side sheet: its number, from 0 at the opening, and 2^32 more where it was heard
abbrev pub frame_entry : ℕ → ℕ → Float → ℕ
frame_entry frame j heard = (frame + j) % 4294967296 + cond (eq heard (f32 0)) 0 4294967296

-- those of frames in a row, the first of them with this number, by the three answers of each
abbrev pub frame_entries : ℕ → List Float → List ℕ
frame_entries frame answers = tab (length answers / 3) (λ j. frame_entry frame j (at answers (3 * j)))

-- and their records in the side sheet, 8 bytes each, on this side
abbrev pub noted_of : ℕ → ℕ → List Float → List ℕ
noted_of side frame answers = records_of side (frame_entries frame answers)

-- of what a take writes, samples and answers: the answers, the samples packed, and a record for each frame; of nothing,
-- nothing
abbrev pub fed_of : ℕ → ℕ → List Written → List Written
fed_of side frame [] = []
fed_of side frame (out ∷ told) =
    from 0 (first_in told) ∷ front (packed (numbers_in out)) ∷ front (noted_of side frame (first_in told)) ∷ []

abbrev pub fed_by : ℕ → ℕ → Effect Answer → Effect Answer
fed_by side frame t = record { answer = t.answer; kept = t.kept; written = fed_of side frame t.written }

unfoldable pub feed : ℕ → ℕ → Record → List Float → Block → List ℕ → ℕ → ℕ → ℕ → Effect Answer
feed n bench rec store b model cleaned records answers =
    refusing (feed_rows (gate n bench rec (length store) PIECE) rec.waiting (block_size b) cleaned records answers)
    (λ r. refusal (record { reply = Refused r; rec = rec }) store)
    (fed_by (side_of bench) rec.frame (take n bench rec store (samples_of b) model ROOM answers))

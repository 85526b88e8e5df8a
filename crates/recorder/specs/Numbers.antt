-- A recorder in numbers, as a host holds it: eight of them. What is returned, and what the buffers then hold.
use Rattle.std.specs.Prelude.{Option, Some, None, ◌∷◌}
use Rattle.rules.specs.Common.{ℕ, not, List, [], eqb, length, get_or}
use Rattle.rules.specs.Leaf.{◌leaving◌}
use Rattle.rules.specs.Refusals.{◌when◌, refusing, wrong}
use Rattle.sides.specs.Sides.{number_of, of_number}
use Rattle.sides.specs.declared.Side.{Side}
use Rattle.sheet.specs.Sheet.{trailer_of}
use Rattle.recording.specs.Recording.{head_for, chunk_for}
use Rattle.recording.specs.Numbers.{word, side_at}
use Rattle.recorder.specs.Recorder.{beginning, belonging, start_of, with_feed, more_rows, closing_of, close_rows}
use Rattle.recorder.specs.Recorder.{following, next_rows}
use Rattle.recorder.specs.declared.Recorder.{Recorder}

unfoldable pub recorder_in : List ℕ → Recorder
recorder_in ns = record {
  front = record { side = side_at (get_or ns 0 0); began = get_or ns 1 0; first = word ns 2 };
  taken = word ns 3;
  size = word ns 4;
  crc = word ns 5;
  count = word ns 6;
  sum = word ns 7;
}

abbrev pub recorder_numbers : Recorder → List ℕ
recorder_numbers r =
    number_of r.front.side ∷ r.front.began ∷ r.front.first ∷ r.taken ∷ r.size ∷ r.crc ∷ r.count ∷ r.sum ∷ []

-- ---- begin

abbrev pub begun_on : Option Side → ℕ → ℕ → List ℕ → ℕ × List ℕ
begun_on (Some side) began first ns = 0 leaving recorder_numbers (beginning (record {
  side = side;
  began = began;
  first =
      first;
}))
begun_on None began first ns = 53 leaving ns

unfoldable pub begun_laid : ℕ → ℕ → ℕ → List ℕ → ℕ × List ℕ
begun_laid side began first ns = refusing (5 when not (eqb (length ns) 8) ∷ []) (λ n. n leaving ns) (begun_on (of_number
    side) began first ns)

-- ---- what one feed gave: where the bytes begin that belong to the recording, and how many they are

unfoldable pub more_laid : ℕ → List ℕ → List ℕ → List ℕ → List ℕ → ℕ × (List ℕ × List ℕ)
more_laid taken cleaned records ns out =
    let r = recorder_in ns in
    refusing (5 when wrong ((length ns, 8) ∷ (length out, 2) ∷ []) ∷ more_rows r taken cleaned records)
    (λ n. n leaving ns leaving out)
    (0 leaving recorder_numbers (with_feed r taken cleaned records)
    leaving start_of r (length cleaned) ∷ length (belonging r taken cleaned) ∷ [])

-- ---- the end

unfoldable pub closing_laid : List ℕ → List ℕ → ℕ × List ℕ
closing_laid ns out =
    refusing (5 when wrong ((length out, 1) ∷ (length ns, 8) ∷ []) ∷ []) (λ n. n leaving out) (0 leaving closing_of
    (recorder_in ns) ∷ [])

unfoldable pub next_laid : ℕ → List ℕ → ℕ × List ℕ
next_laid began ns =
    let r = recorder_in ns in
    refusing (5 when not (eqb (length ns) 8) ∷ next_rows r) (λ n. n leaving ns) (0 leaving recorder_numbers (following r
    began))

-- the head, what is between the audio and the records, and the trailer
unfoldable pub finish_laid : List ℕ → List ℕ → List ℕ → List ℕ → ℕ × (List ℕ × (List ℕ × List ℕ))
finish_laid ns head chunk trailer =
    let r = recorder_in ns in
    refusing (5 when wrong ((length ns, 8) ∷ (length head, 76) ∷ (length chunk, 32) ∷ (length trailer, 16) ∷ []) ∷
    close_rows r)
    (λ n. n leaving head leaving chunk leaving trailer)
    (0 leaving head_for r.front r.size leaving chunk_for r.front r.size r.crc leaving trailer_of r.count
    (number_of r.front.side) r.sum)

-- The head that the box writes reads back. Assumes nothing.
use Rattle.std.specs.Prelude.{◌+◌, ◌*◌, ◌/◌, ◌%◌, ◌^◌, ◌≤◌, ◌<◌, ◌++◌, ◌≡◌}
use Rattle.rules.proofs.Common.{ℕ, List, refl, length, drop}
use Rattle.rules.proofs.Common.{length-drop, length-append}
use native.Mathlib.Omega.{arith}
use borrow.Author.Tests.{le-ltb}
use Rattle.sheet.specs.Sheet.{four}
use Rattle.sheet.specs.End.{from_four}
use Rattle.sheet.proofs.Digits.{digits}
use Rattle.wav.specs.Chunks.{from_two, unread, front_of, tag_in, format_of, format_faults, formatted, chunk_of, step_of}
use Rattle.wav.specs.Head.{head_of}
use Rattle.wav.specs.Laws.{follow, HeadBack}
use Rattle.wav.specs.declared.chunks.Head.{Head}
use Rattle.wav.specs.Chunks.{Audio, On}

-- a number of 32 bits is its four bytes
four_bytes : (n : ℕ) → n < 2 ^ 32
    → n % 256 + 256 * (n / 256 % 256) + 65536 * (n / 65536 % 256) + 16777216 * (n / 16777216 % 256) ≡ n
four_bytes n h = omega (arith, digits n)

module _ (rate size behind : ℕ) (rest : List ℕ) (hr : rate < 2 ^ 32) (hs : size < 2 ^ 32) where
  abbrev file : List ℕ
  file = head_of rate size behind ++ rest

  head_long : length (head_of rate size behind) ≡ 44
  unfolding head_of four
  head_long = refl

  room : (place : ℕ) → place ≤ 36 → 8 ≤ length (drop place file)
  room place h = simp (length-drop, length-append, head_long) (omega arith)

  -- behind the first twelve bytes, and behind the format
  abbrev named : Head
  named = record { place = 12; format = 0; channels = 0; rate = 0; size = 0 }

  abbrev described : Head
  described = record { place = 36; format = 16; channels = 1; rate = rate; size = 0 }

  front_read : step_of file unread ≡ On named
  unfolding step_of front_of from_four head_of four
  front_read = rw (le-ltb (length file) 12 (simp (length-append, head_long) (omega arith)))

  format_read : step_of (drop 12 file) named ≡ On described
  unfolding step_of chunk_of formatted format_faults tag_in format_of from_two from_four head_of four
  format_read =
      rw (
        le-ltb (length (drop 12 file)) 8 (room 12 (omega arith)),
        le-ltb (length (drop 12 file)) 24 (simp (length-drop, length-append, head_long) (omega arith)),
        four_bytes rate hr,
      )

  audio_read : step_of (drop 36 file) described
      ≡ Audio (record { place = 44; format = 16; channels = 1; rate = rate; size = size })
  unfolding step_of chunk_of from_four head_of four
  audio_read = rw (le-ltb (length (drop 36 file)) 8 (room 36 (omega arith)), four_bytes size hs)

pub head_back : HeadBack
unfolding follow
head_back rate size behind rest hr hs =
    rw (
      front_read rate size behind rest hr hs,
      format_read rate size behind rest hr hs,
      audio_read rate size behind rest hr hs,
    )

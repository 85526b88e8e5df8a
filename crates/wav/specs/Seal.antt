-- The two seals of a recording: as data, as 24 bytes, and as they are read. Four letters are read as a
-- number, least significant byte first.
use Rattle.std.specs.Prelude.{Option, Some, None, Result, Ok, Err, ◌+◌, ◌*◌, ◌/◌, ◌||◌, ◌∷◌, ◌++◌}
use Rattle.rules.specs.Common.{ℕ, not, List, [], eqb, ltb, length, take, drop}
use Rattle.rules.specs.Leaf.{◌leaving◌}
use Rattle.rules.specs.Refusal.{refusal_number}
use Rattle.rules.specs.declared.refusal.Refusal.{Refusal}
use Rattle.rules.specs.Refusals.{Row, ◌when◌, refusing}
use Rattle.checksum.specs.Checksum.{crc32}
use Rattle.sides.specs.Sides.{number_of, letters_of, of_number, of_letters}
use Rattle.sides.specs.declared.Side.{Side}
use Rattle.sheet.specs.Sheet.{four}
use Rattle.sheet.specs.End.{from_four}
use Rattle.wav.specs.declared.seal.Word.{Word}
use Rattle.wav.specs.declared.seal.Word.TheVariants.{Begins, Ends}
use Rattle.wav.specs.declared.seal.Seal.{Seal}

-- The letters "TUPB" and "TUPP".
abbrev pub TUPB : ℕ
TUPB = 0x42505554

abbrev pub TUPP : ℕ
TUPP = 0x50505554

abbrev pub word_of : Word → ℕ
word_of Begins = TUPB
word_of Ends = TUPP

-- A seal without its own checksum: its word, the letters of the side, a number of 64 bits, and one of 32
-- bits.
abbrev pub twenty_of : ℕ → ℕ → ℕ → ℕ → List ℕ
twenty_of letters name long short =
    four letters ++ (four name ++ (four long ++ (four (long / 4294967296) ++ four short)))

unfoldable pub said : Word → Seal → List ℕ
said w s = twenty_of (word_of w) (letters_of s.side) s.long s.short

unfoldable pub seal_of : Word → Seal → List ℕ
seal_of w s = said w s ++ four (crc32 0 (said w s))

-- ---- written for a host, of a side by its number: what is returned, and what the buffer then holds

abbrev pub laid_for : Word → Option Side → ℕ → ℕ → List ℕ → ℕ × List ℕ
laid_for w (Some side) long short out = 0 leaving seal_of w (record { side = side; long = long; short = short })
laid_for w None long short out = 53 leaving out

unfoldable pub seal_written : Word → ℕ → ℕ → ℕ → List ℕ → ℕ × List ℕ
seal_written w side long short out =
    refusing (5 when not (eqb (length out) 24) ∷ []) (λ n. n leaving out) (laid_for w (of_number side) long short out)

-- ---- read, at the front of some bytes

abbrev pub name : List ℕ → ℕ
name s = from_four (drop 4 s)

abbrev pub long : List ℕ → ℕ
long s = from_four (drop 8 s) + 4294967296 * from_four (drop 12 s)

abbrev pub short : List ℕ → ℕ
short s = from_four (drop 16 s)

-- A whole seal, or the number of a refusal.
pub data Reading : Type 0 where
  Whole : Seal → Reading
  Refused : ℕ → Reading

-- What a reader's answer says.
abbrev pub seal_as : Result Seal Refusal → Reading
seal_as (Ok seal) = Whole seal
seal_as (Err refusal) = Refused (refusal_number refusal)

-- The refusals, in order.
unfoldable pub seal_faults : Word → List ℕ → List Row
seal_faults w s =
    51 when (ltb (length s) 24 || not (eqb (from_four s) (word_of w)))
    ∷ 52 when not (eqb (from_four (drop 20 s)) (crc32 0 (take 20 s)))
    ∷ []

abbrev pub seal_for : Option Side → ℕ → ℕ → Reading
seal_for (Some side) long short = Whole (record { side = side; long = long; short = short })
seal_for None long short = Refused 53

unfoldable pub seal_read : Word → List ℕ → Reading
seal_read w s = refusing (seal_faults w s) Refused (seal_for (of_letters (name s)) (long s) (short s))

-- What a host is told: the number of the side, and the two numbers.
abbrev pub seal_told : Reading → List ℕ → ℕ × List ℕ
seal_told (Whole s) out = 0 leaving number_of s.side ∷ s.long ∷ s.short ∷ []
seal_told (Refused n) out = n leaving out

unfoldable pub seal_summary : Word → List ℕ → List ℕ → ℕ × List ℕ
seal_summary w s out = refusing (5 when not (eqb (length out) 3) ∷ []) (λ n. n leaving out)
    (seal_told (seal_read w s) out)

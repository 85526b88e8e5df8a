-- Claims about seals and heads. Proofs: proofs/Sealed, Onward, Enough, Back.
use Rattle.std.specs.Prelude.{◌+◌, ◌^◌, ◌≤◌, ◌<◌, ◌∷◌, ◌++◌, ◌≡◌}
use Rattle.rules.specs.Common.{ℕ, zero, suc, List, [], length, take, drop}
use Rattle.rules.specs.Leaf.{◌leaving◌}
use Rattle.sides.specs.Sides.{letters_of}
use Rattle.sides.specs.declared.Side.{Side}
use Rattle.sides.specs.declared.Side.TheVariants.{Left, Right}
use Rattle.sheet.specs.Sheet.{four}
use Rattle.wav.specs.Seal.{seal_of, seal_written, seal_read, seal_summary}
use Rattle.wav.specs.Chunks.{unread, step_of}
use Rattle.wav.specs.Head.{head_of}
use Rattle.wav.specs.declared.seal.Word.{Word}
use Rattle.wav.specs.declared.seal.Word.TheVariants.{Begins, Ends}
use Rattle.wav.specs.declared.seal.Seal.{Seal}
use Rattle.wav.specs.Seal as reading
use Rattle.wav.specs.declared.chunks.Head.{Head}
use Rattle.wav.specs.Chunks.{Step}
use Rattle.wav.specs.Chunks.{Audio, On, Refused}

-- ---- seals

-- A seal's numbers fit into 24 bytes.
pub record SealFits (x : Seal) : Type 0 where
  pub long : x.long < 2 ^ 64
  pub short : x.short < 2 ^ 32

-- What is written reads back, whatever follows it.
abbrev pub SealBack : Type 0
SealBack = (w : Word) (x : Seal) (rest : List ℕ) → SealFits x → seal_read w (seal_of w x ++ rest) ≡ reading.Whole x

-- So a seal cannot be one of another side or of other numbers.
abbrev pub OneSeal : Type 0
OneSeal = (w : Word) (x y : Seal) (rest rest' : List ℕ) → SealFits x → SealFits y
    → seal_of w x ++ rest ≡ seal_of w y ++ rest' → x ≡ y

-- With the letters of the other side in their place it is no seal at all.
abbrev pub other_side : Side → Side
other_side Left = Right
other_side Right = Left

abbrev pub renamed : Seal → List ℕ → List ℕ
renamed x s = take 4 s ++ (four (letters_of (other_side x.side)) ++ drop 8 s)

abbrev pub OtherName : Type 0
OtherName = (w : Word) (x : Seal) (rest : List ℕ) → SealFits x
    → seal_read w (renamed x (seal_of w x ++ rest)) ≡ reading.Refused 52

-- What a host has written, it reads: the same side and the same two numbers.
abbrev pub SealCalls : Type 0
SealCalls =
    (w : Word) (side long short : ℕ) (out after rest numbers : List ℕ) → long < 2 ^ 64 → short < 2 ^ 32
    → length numbers ≡ 3
    → (0 leaving after) ≡ seal_written w side long short out
    → seal_summary w (after ++ rest) numbers ≡ (0 leaving side ∷ long ∷ short ∷ [])

-- A front seal is no end seal, and an end seal no front seal.
abbrev pub other_word : Word → Word
other_word Begins = Ends
other_word Ends = Begins

abbrev pub OtherWord : Type 0
OtherWord = (w : Word) (x : Seal) (rest : List ℕ) → seal_read (other_word w) (seal_of w x ++ rest) ≡ reading.Refused 51

-- ---- heads

-- Each step of a reading goes at least 8 bytes further, so a reading ends, whatever the file is.
abbrev pub Onward : Type 0
Onward = (s : List ℕ) (h h' : Head) → step_of s h ≡ On h' → h.place + 8 ≤ h'.place

-- The first 34 bytes from a place on are enough for a step.
abbrev pub Enough : Type 0
Enough = (s : List ℕ) (h : Head) → step_of (take 34 s) h ≡ step_of s h

-- At most n steps of a reading, each lent the file from the place that the one before asked for.
abbrev pub and_on : Step → (Head → Step) → Step
and_on (Audio h) more = Audio h
and_on (On h) more = more h
and_on (Refused n) more = Refused n

unfoldable pub follow : ℕ → List ℕ → Head → Step
follow zero file h = On h
follow (suc n) file h = and_on (step_of (drop h.place file) h) (follow n file)

-- What is written reads back in three steps, whatever follows it.
abbrev pub HeadBack : Type 0
HeadBack =
    (rate size behind : ℕ) (rest : List ℕ) → rate < 2 ^ 32 → size < 2 ^ 32
    → follow 3 (head_of rate size behind ++ rest) unread
    ≡ Audio (record { place = 44; format = 16; channels = 1; rate = rate; size = size })

-- What is written reads back as the seal that it was, and with the other side's letters in their place as none.
-- Assumes nothing.
use Rattle.std.specs.Prelude.{Option, Some, None, ◌/◌, ◌^◌, ◌≤◌, ◌<◌, ◌∷◌, ◌++◌, ◌≡◌}
use Rattle.rules.proofs.Common.{ℕ, Bool, true, false, List, []}
use Rattle.rules.proofs.Common.{refl, sym}
use Rattle.rules.proofs.Common.{ap, ◌∙◌, eqb, length, take, drop, length-append}
use mathlib.Core.List.{append_assoc}
use native.Mathlib.Omega.{arith}
use borrow.Author.Tests.{eq-eqb}
use lib.Seq.{take_at, drop_at}
use Rattle.rules.specs.Leaf.{◌leaving◌}
use Rattle.rules.specs.Loop.{loop}
use Rattle.rules.specs.Tab.{tab}
use Rattle.checksum.specs.Checksum.{table, crc, crc32}
use Rattle.checksum.proofs.Apart.{small, same_end}
use Rattle.sides.specs.Sides.{letters_of, of_number, of_letters}
use Rattle.sides.proofs.Back.{letters_back, number_only}
use Rattle.sides.specs.declared.Side.{Side}
use Rattle.sides.specs.declared.Side.TheVariants.{Left, Right}
use Rattle.sheet.specs.Sheet.{four}
use Rattle.sheet.specs.End.{from_four}
use Rattle.sheet.proofs.Digits.{four_read}
use Rattle.wav.specs.Seal.{TUPB, TUPP, word_of, said, seal_of, name, long, laid_for, seal_written}
use Rattle.wav.specs.Seal.{seal_read, seal_summary}
use Rattle.wav.specs.Laws.{SealFits, SealBack, OneSeal, other_side, renamed, OtherName, SealCalls}
use Rattle.wav.specs.Laws.{OtherWord}
use Rattle.wav.specs.declared.seal.Word.{Word}
use Rattle.wav.specs.declared.seal.Word.TheVariants.{Begins, Ends}
use Rattle.wav.specs.declared.seal.Seal.{Seal}
use Rattle.wav.specs.Seal.{Whole, Refused}
use Rattle.wav.proofs.Seals.{at_51', at_52, at_whole, length_said}

-- a number of 32 bits by its four bytes
pub whole : (n : ℕ) (rest : List ℕ) → n < 2 ^ 32 → from_four (four n ++ rest) ≡ n
whole n rest h = four_read n rest ∙ omega arith

-- ---- any 20 bytes and a checksum, and what follows them

module _ (front : List ℕ) (own : ℕ) (rest : List ℕ) (size : length front ≡ 20) (room : own < 2 ^ 32) where
  abbrev file : List ℕ
  file = (front ++ four own) ++ rest

  split : file ≡ front ++ (four own ++ rest)
  split = append_assoc front (four own) rest

  first : take 20 file ≡ front
  first = rw split (take_at front (four own ++ rest) 20 size)

  last : from_four (drop 20 file) ≡ own
  last = rw (split, drop_at front (four own ++ rest) 20 size) (whole own rest room)

  enough : 24 ≤ length file
  unfolding four
  enough = simp length-append (omega arith)

-- ---- words and letters

word_small : (w : Word) → word_of w < 2 ^ 32
word_small Begins = omega arith
word_small Ends = omega arith

letters_small : (side : Side) → letters_of side < 2 ^ 32
letters_small Left = omega arith
letters_small Right = omega arith

-- ---- what is said reads back, with any checksum

module _ (w : Word) (x : Seal) (own : ℕ) (rest : List ℕ) where
  abbrev sealed : List ℕ
  sealed = (said w x ++ four own) ++ rest

  word_read : from_four sealed ≡ word_of w
  unfolding said four
  word_read = whole (word_of w) (drop 4 sealed) (word_small w)

  name_read : name sealed ≡ letters_of x.side
  unfolding said four
  name_read = whole (letters_of x.side) (drop 8 sealed) (letters_small x.side)

  module _ (holds : SealFits x) where
    long_read : long sealed ≡ x.long
    unfolding said four
    long_read =
        omega (
          arith,
          holds.long,
          four_read x.long (drop 12 sealed),
          four_read (x.long / 4294967296) (drop 16 sealed),
        )

    short_read : from_four (drop 16 sealed) ≡ x.short
    unfolding said four
    short_read = whole x.short (drop 20 sealed) holds.short

-- ---- what is written reads back

module _ (w : Word) (x : Seal) (rest : List ℕ) where
  abbrev own : ℕ
  own = crc32 0 (said w x)

  room : own < 2 ^ 32
  room = small 0 (said w x) (omega arith)

  abbrev written : List ℕ
  written = sealed w x own rest

  noted : from_four (drop 20 written) ≡ crc32 0 (take 20 written)
  noted =
      last (said w x) own rest (length_said w x) room
      ∙ ap (crc32 0) (sym (first (said w x) own rest (length_said w x) room))

  read_back : SealFits x → seal_read w written ≡ Whole x
  read_back holds =
      sym (at_whole w written (enough (said w x) own rest (length_said w x) room) refl refl
      (word_read w x own rest) refl refl noted refl refl refl refl refl
      (sym (ap of_letters (name_read w x own rest) ∙ letters_back x.side)))
      ∙ rw (long_read w x own rest holds, short_read w x own rest holds)

pub seal_back : SealBack
unfolding seal_of
seal_back w x rest holds = read_back w x rest holds

pub one_seal : OneSeal
one_seal w x y rest rest' hx hy e =
    let same : Whole x ≡ Whole y = sym (seal_back w x rest hx) ∙ ap (seal_read w) e ∙ seal_back w y rest' hy in
    cc

pub other_word_lem : OtherWord
unfolding seal_of
other_word_lem Begins x rest =
    sym (at_51' Ends (written Begins x rest)
    (enough (said Begins x) (own Begins x rest) rest (length_said Begins x) (room Begins x rest)) refl refl
    (λ e.
    absurd (let z : ◌≡◌ {A = ℕ} TUPB TUPP = sym (word_read Begins x (own Begins x rest) rest) ∙ e in omega arith)))
other_word_lem Ends x rest =
    sym (at_51' Begins (written Ends x rest)
    (enough (said Ends x) (own Ends x rest) rest (length_said Ends x) (room Ends x rest)) refl refl
    (λ e. absurd (let z : ◌≡◌ {A = ℕ} TUPP TUPB = sym (word_read Ends x (own Ends x rest) rest) ∙ e in omega arith)))

-- ---- a host's calls

module _ (w : Word) (side l s : ℕ) (out after rest numbers : List ℕ) (hl : l < 2 ^ 64) (hs : s < 2 ^ 32)
    (three : length numbers ≡ 3) where
  by_side : (m : Option Side) → of_number side ≡ m → (0 leaving after) ≡ laid_for w m l s out
      → seal_summary w (after ++ rest) numbers ≡ (0 leaving side ∷ l ∷ s ∷ [])
  unfolding seal_summary
  by_side (Some known) e a =
      let x : Seal = record { side = known; long = l; short = s } in
      let bytes : after ≡ seal_of w x = ap (λ (p : ℕ × List ℕ). p.1) a in
      let back : seal_read w (after ++ rest) ≡ Whole x =
      ap (λ (b : List ℕ). seal_read w (b ++ rest)) bytes ∙ seal_back w x rest (record { long = hl; short = hs }) in
      rw (eq-eqb (length numbers) 3 three, back, number_only side known e)
  by_side None e a = absurd (let z : ◌≡◌ {A = ℕ} 0 53 = ap (λ (p : ℕ × List ℕ). p.0) a in omega arith)

pub seal_calls : SealCalls
unfolding seal_written
seal_calls w side l s out after rest numbers hl hs three e = by_room (eqb (length out) 24) refl
  where
    by_room : (t : Bool) → eqb (length out) 24 ≡ t
        → seal_summary w (after ++ rest) numbers ≡ (0 leaving side ∷ l ∷ s ∷ [])
    by_room true t = by_side w side l s out after rest numbers hl hs three (of_number side) refl (rw t at e)
    by_room false t = absurd (let z : ◌≡◌ {A = ℕ} 0 5 = ap (λ (p : ℕ × List ℕ). p.0) (rw t at e) in omega arith)

-- ---- the other side's letters

-- the checksums of a word and a side's letters
abbrev sums : Word → Side → ℕ
sums Begins Left = 0x86A8325B
sums Begins Right = 0xAB69EB17
sums Ends Left = 0x9C88F6B9
sums Ends Right = 0xB1492FF5

sum_is : (w : Word) (side : Side) → crc32 0 (four (word_of w) ++ four (letters_of side)) ≡ sums w side
unfolding crc32 crc table tab loop four
sum_is Begins Left = refl
sum_is Begins Right = refl
sum_is Ends Left = refl
sum_is Ends Right = refl

unlike_sums : (w : Word) (side : Side) → sums w side ≡ sums w (other_side side) → ⊥
unlike_sums Begins Left e = absurd (omega arith)
unlike_sums Begins Right e = absurd (omega arith)
unlike_sums Ends Left e = absurd (omega arith)
unlike_sums Ends Right e = absurd (omega arith)

module _ (w : Word) (x : Seal) where
  -- the same of the other side
  abbrev other : Seal
  other = record { side = other_side x.side; long = x.long; short = x.short }

  -- what is said after the side's letters
  abbrev tail : List ℕ
  tail = four x.long ++ (four (x.long / 4294967296) ++ four x.short)

  parted : (side : Side) → said w (record { side = side; long = x.long; short = x.short })
      ≡ (four (word_of w) ++ four (letters_of side)) ++ tail
  unfolding said four
  parted side = refl

  unlike : crc32 0 (said w x) ≡ crc32 0 (said w other) → ⊥
  unlike e =
      let split : crc32 0 ((four (word_of w) ++ four (letters_of x.side)) ++ tail)
      ≡ crc32 0 ((four (word_of w) ++ four (letters_of (other_side x.side))) ++ tail) =
      ap (crc32 0) (sym (parted x.side)) ∙ e ∙ ap (crc32 0) (parted (other_side x.side)) in
      unlike_sums w x.side (sym (sum_is w x.side)
      ∙ same_end 0 (four (word_of w) ++ four (letters_of x.side))
      (four (word_of w) ++ four (letters_of (other_side x.side))) tail (omega arith) split
      ∙ sum_is w (other_side x.side))

module _ (w : Word) (x : Seal) (rest : List ℕ) where
  abbrev exchanged : List ℕ
  exchanged = sealed w (other w x) (own w x rest) rest

  is_exchanged : renamed x (seal_of w x ++ rest) ≡ exchanged
  unfolding seal_of said four
  is_exchanged = refl

  not_noted : from_four (drop 20 exchanged) ≡ crc32 0 (take 20 exchanged) → ⊥
  not_noted e =
      unlike w x
      (sym (last (said w (other w x)) (own w x rest) rest (length_said w (other w x)) (room w x rest)) ∙ e
      ∙ ap (crc32 0) (first (said w (other w x)) (own w x rest) rest (length_said w (other w x)) (room w x rest)))

  refused : seal_read w exchanged ≡ Refused 52
  refused =
      sym
      (at_52 w exchanged (enough (said w (other w x)) (own w x rest) rest (length_said w (other w x)) (room w x rest))
      refl refl (word_read w (other w x) (own w x rest) rest) refl refl not_noted)

pub other_name : OtherName
other_name w x rest holds = ap (seal_read w) (is_exchanged w x rest) ∙ refused w x rest

-- A seal laid into a buffer, and the answers of its reader. Assumes nothing.
use Rattle.std.specs.Prelude.{Option, Some, ◌+◌, ◌-◌, ◌*◌, ◌≤◌, ◌++◌, ◌≡◌}
use Rattle.rules.proofs.Common.{ℕ, List, [], refl, sym, ap, ◌∙◌, length, take}
use Rattle.rules.proofs.Common.{drop, length-drop, length-append}
use mathlib.Core.List.{append-nil}
use native.Mathlib.Omega.{arith}
use borrow.Author.Tests.{le-ltb, eq-eqb, ne_eqb}
use lib.ListN.{drop_of_length-le}
use lib.Seq.{take_at, drop_at}
use Rattle.checksum.specs.Checksum.{crc32}
use Rattle.sides.specs.Sides.{of_letters}
use Rattle.sides.specs.declared.Side.{Side}
use Rattle.sheet.specs.Sheet.{four}
use Rattle.sheet.specs.End.{from_four}
use Rattle.wav.specs.Seal.{word_of, name, seal_faults, said, seal_of, seal_read}
use Rattle.wav.specs.declared.seal.Word.{Word}
use Rattle.wav.specs.declared.seal.Seal.{Seal}
use Rattle.wav.specs.Seal.{Whole, Refused}

module _ (w : Word) (s : List ℕ) where
  module _ (enough : 24 ≤ length s) {r k : ℕ} (rs : r ≡ from_four s) (ks : k ≡ word_of w) where
    pub at_51' : (r ≡ k → ⊥) → Refused 51 ≡ seal_read w s
    unfolding seal_read seal_faults
    at_51' h = rw (le-ltb (length s) 24 enough, ← rs, ← ks, ne_eqb r k h)

    module _ {noted own : ℕ} (named : r ≡ k) (ns : noted ≡ from_four (drop 20 s)) (os : own ≡ crc32 0 (take 20 s)) where
      pub at_52 : (noted ≡ own → ⊥) → Refused 52 ≡ seal_read w s
      unfolding seal_read seal_faults
      at_52 h = rw (le-ltb (length s) 24 enough, ← rs, ← ks, eq-eqb r k named, ← ns, ← os, ne_eqb noted own h)

      module _ {n : ℕ} {m : Option Side} (whole : noted ≡ own) (names : n ≡ name s) (ms : m ≡ of_letters n) where
        told : of_letters (name s) ≡ m
        told = ap of_letters (sym names) ∙ sym ms

        pub at_whole : {side : Side} {low high sum : ℕ} → low ≡ from_four (drop 8 s) → high ≡ from_four (drop 12 s)
            → sum ≡ from_four (drop 16 s) → Some side ≡ m
            → Whole (record { side = side; long = low + 4294967296 * high; short = sum }) ≡ seal_read w s
        unfolding seal_read seal_faults
        at_whole ls hs ss e =
            rw (
              le-ltb (length s) 24 enough,
              ← rs,
              ← ks,
              eq-eqb r k named,
              ← ns,
              ← os,
              eq-eqb noted own whole,
              told,
              ← e,
              ls,
              hs,
              ss,
            )

-- ---- written

pub length_said : (w : Word) (x : Seal) → length (said w x) ≡ 20
unfolding said four
length_said w x = refl

-- what is said, and its checksum after it
pub laid : (w : Word) (x : Seal) (out : List ℕ) → length out ≡ 24 → {front own : List ℕ} {sum : ℕ} → front ≡ said w x
    → own ≡ four sum → sum ≡ crc32 0 (said w x)
    → take 20 (front ++ drop 20 out)
    ++ (own ++ drop (length (front ++ drop 20 out) - 20) (drop 20 (front ++ drop 20 out))) ≡ seal_of w x
unfolding seal_of
laid w x out size fs os ss =
    let long : length (said w x ++ drop 20 out) ≡ 24 = simp (length-append, length_said, length-drop) (omega arith) in
    let none : drop 4 (drop 20 out) ≡ [] = drop_of_length-le (drop 20 out) {i = 4} (simp length-drop (omega arith)) in
    rw (
      fs,
      os,
      ss,
      long,
      take_at (said w x) (drop 20 out) 20 (length_said w x),
      drop_at (said w x) (drop 20 out) 20 (length_said w x),
      none,
      append-nil (four (crc32 0 (said w x))),
    )

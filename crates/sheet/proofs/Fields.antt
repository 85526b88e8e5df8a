-- What stands at a place of some bytes, byte by byte. Assumes nothing.
use Rattle.std.specs.Prelude.{◌+◌, ◌*◌, ◌&&◌, ◌≡◌}
use Rattle.rules.proofs.Common.{ℕ, not, List, eqb, ltb, get_or, drop}
use native.Mathlib.Nat.{add-zero}
use lib.Seq.{get_or-drop}
use Rattle.sheet.specs.End.{from_four, three_zeros, good_record, entry_of}

module _ (s : List ℕ) (at : ℕ) where
  pub four_at_lem : from_four (drop at s)
      ≡ get_or s at 0 + 256 * get_or s (at + 1) 0 + 65536 * get_or s (at + 2) 0 + 16777216 * get_or s (at + 3) 0
  unfolding from_four
  four_at_lem = simp (get_or-drop, add-zero)

  pub zeros_at : three_zeros (drop at s)
      ≡ eqb (get_or s at 0) 0 && (eqb (get_or s (at + 1) 0) 0 && eqb (get_or s (at + 2) 0) 0)
  unfolding three_zeros
  zeros_at = simp (get_or-drop, add-zero)

  pub good_at : (side : ℕ) → good_record side (drop at s)
      ≡ not (ltb 1 (get_or s (at + 4) 0))
      && (eqb (get_or s (at + 5) 0) side && (eqb (get_or s (at + 6) 0) 0 && eqb (get_or s (at + 7) 0) 0))
  unfolding good_record
  good_at side = simp get_or-drop

  pub entry_at_lem : entry_of (drop at s) ≡ from_four (drop at s) + 4294967296 * get_or s (at + 4) 0
  unfolding entry_of
  entry_at_lem = simp get_or-drop

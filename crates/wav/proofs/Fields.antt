-- What stands at a place of some bytes. Assumes nothing.
use Rattle.std.specs.Prelude.{◌+◌, ◌*◌, ◌≡◌}
use Rattle.rules.proofs.Common.{ℕ, List, get_or, drop}
use native.Mathlib.Nat.{add-zero}
use lib.Seq.{get_or-drop}
use Rattle.wav.specs.Chunks.{from_two}

pub two_at : (s : List ℕ) (at : ℕ) → from_two (drop at s) ≡ get_or s at 0 + 256 * get_or s (at + 1) 0
unfolding from_two
two_at s at = simp (get_or-drop, add-zero)

-- Bins are added to a band and the next. The code holds the two sums in locals, and the definition in their places: a
-- turn of the one is a turn of the other. `bins` is what the loop over a band's bins is searched with, and
-- `whole_bands` is what the loop over the bands is.
-- Assumes nothing.
use Rattle.std.specs.Prelude.{◌+◌, ◌-◌, ◌<◌, ◌≡◌}
use Rattle.rules.proofs.Common.{ℕ, List, refl, sym, ◌∙◌, length, set, length-set, pos, Float}
use Rattle.rules.proofs.Common.{binary32, nan}
use native.Mathlib.Omega.{arith}
use lib.Seq.{get_or-set_same, get_or-set_other, set-get_or, set-set, set_comm}
use lib.Ieee.{of_int, of_bits}
use Rattle.rules.specs.Loop.{loop, range}
use Rattle.rules.specs.F32.{◌⊕◌, ◌⊖◌, ◌⊗◌, ◌⊘◌, at, f32}
use Rattle.rules.proofs.Loops.{range_after, turns}
use Rattle.rules.proofs.Numbers.{casts}
use Rattle.bands.specs.Bands.{edges, edge, added, frac, rest, bin_corr, corr_step, in_band}
use Rattle.bands.proofs.Edges.{edges_rule}

module _ (out : List Float) (i : ℕ) where
  abbrev pub held : Float → Float → List Float
  held low high = set (set out i low) (i + 1) high

  pub held_none : held (at out i) (at out (i + 1)) ≡ out
  held_none = rw (set-get_or out i nan, set-get_or out (i + 1) nan)

  module _ (fits : i + 1 < length out) (low high a b : Float) where
    low_is : at (held low high) i ≡ low
    low_is =
        get_or-set_other (set out i low) (i + 1) i high nan (λ e. omega arith)
        ∙ get_or-set_same out i low nan (omega arith)

    low_more : added (held low high) i a ≡ held (low ⊕ a) high
    low_more =
        rw low_is (set_comm (set out i low) (i + 1) i high (low ⊕ a) (λ e. omega arith)
        ∙ rw (set-set out i low (low ⊕ a)))

    high_is : at (held (low ⊕ a) high) (i + 1) ≡ high
    high_is = get_or-set_same (set out i (low ⊕ a)) (i + 1) high nan (simp length-set fits)

    held_more : added (added (held low high) i a) (i + 1) b ≡ held (low ⊕ a) (high ⊕ b)
    held_more = rw (low_more, high_is) (set-set (set out i (low ⊕ a)) (i + 1) high (high ⊕ b))

-- a turn of the code, with what its locals stand for
pub turn : (x p out : List Float) (i j start size : ℕ) (low high corr : Float) → i + 1 < length out
    → start ≡ edge i → size ≡ edge (i + 1) - edge i → corr ≡ bin_corr x p (start + j)
    → held out i (low ⊕ (f32 0x3F800000 ⊖ of_int binary32 (pos j) ⊘ of_int binary32 (pos size)) ⊗ corr)
    (high ⊕ of_int binary32 (pos j) ⊘ of_int binary32 (pos size) ⊗ corr)
    ≡ corr_step x p i j (held out i low high)
unfolding corr_step frac
turn x p out i j start size low high corr fits s w c =
    rw (c, s, w)
    (sym (held_more out i fits low high (rest i j ⊗ bin_corr x p (edge i + j)) (frac i j ⊗ bin_corr x p (edge i + j))))

-- bin 0
pub frac_0 : frac 0 0 ≡ f32 0 ⊘ f32 0x40800000
unfolding frac edge edges of_int of_bits
frac_0 = refl

pub edge_0 : edge 0 + 0 ≡ 0
unfolding edge edges
edge_0 = refl

-- band 0 is its bin 0 and then the others, and any other band has all its bins in turn
module _ (x p out : List Float) where
  pub first_band : range 1 (edge (0 + 1) - edge 0) (corr_step x p 0) (corr_step x p 0 0 out)
      ≡ loop 1 (in_band (corr_step x p)) out
  unfolding loop
  first_band = range_after (corr_step x p 0) 1 (edge (0 + 1) - edge 0) out (omega (arith, edges_rule 0 (omega arith)))

  pub any_band : (i : ℕ) → range 0 (edge (i + 1) - edge i) (corr_step x p i) out ≡ in_band (corr_step x p) i out
  unfolding loop
  any_band i = range_after (corr_step x p i) 0 (edge (i + 1) - edge i) out (omega arith)

pub ruleset bins = (held_none, turn, casts, turns)

pub ruleset whole_bands = (any_band, turns)

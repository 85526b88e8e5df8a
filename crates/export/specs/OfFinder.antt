-- The lengths of the finder, whose answers go into lent slices, and the numbers that it keeps.
use Rattle.std.specs.Prelude.{◌∷◌, ◌≡◌}
use Rattle.rules.specs.Common.{ℕ, List, [], pos, Float, binary32, of_int}
use Rattle.rules.specs.F32.{at}
use Rattle.finder.specs.Finder.{find}
use Rattle.finder.specs.declared.Pitch.{Pitch}

pub record FindFits (numbers place mem : ℕ) : Type 0 where
  pub two : numbers ≡ 2
  pub one : place ≡ 1
  pub whole : mem ≡ 1728

-- what is found after the numbers that were kept
abbrev pub found_after : List Float → List Float → Pitch
found_after numbers mem = find (at numbers 0) (at numbers 1) mem

-- the period, as an f32, and the gain
abbrev pub kept_numbers : Pitch → List Float
kept_numbers p = of_int binary32 (pos p.period) ∷ p.gain ∷ []

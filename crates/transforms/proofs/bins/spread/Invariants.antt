-- `transforms::bins::spread` meets its contract. Assumes nothing.
use Rattle.std.specs.Prelude.{◌≡◌}
use Rattle.rules.proofs.Common.{List, length, Float}
use Rattle.rules.specs.Spectrum.{bin_of}
use Rattle.rules.proofs.Lists.{Filling}
use Rattle.transforms.specs.Transform.{bin, part_of}
use Rattle.transforms.specs.Private.{Keeps, bin_part}
use Rattle.transforms.proofs.bins.spread.Given as goal

abbrev pub invariant-loop-j : goal.invariant-loop-j
invariant-loop-j l = (length l.initial.out ≡ 961)
    × ((x : List Float) → Keeps (bin_part x 960) 992 l.parts
    → Filling (λ i. bin x (bin_of i) (part_of i)) l.initial.out l.j l.out)

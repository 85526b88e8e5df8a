-- `transforms::samples::spread` meets its contract. Assumes nothing.
use Rattle.std.specs.Prelude.{◌≡◌}
use Rattle.rules.proofs.Common.{List, length, Float}
use Rattle.rules.proofs.Lists.{Filling}
use Rattle.transforms.specs.Transform.{sample}
use Rattle.transforms.specs.Private.{Keeps, whole_part}
use Rattle.transforms.proofs.samples.spread.Given as goal

abbrev pub invariant-loop-n : goal.invariant-loop-n
invariant-loop-n l = (length l.initial.out ≡ 960)
    × ((x : List Float) → Keeps (whole_part x) 992 l.parts → Filling (λ i. sample x i) l.initial.out l.n l.out)

-- `transforms::samples::all_samples` meets its contract. Assumes nothing.
use Rattle.std.specs.Prelude.{◌-◌, ◌*◌}
use Rattle.transforms.specs.Private.{Keeps, whole_part}
use Rattle.transforms.proofs.samples.all_samples.Given as goal

abbrev pub invariant-loop-g : goal.invariant-loop-g
invariant-loop-g l = Keeps (whole_part l.x) (32 * l.g) l.parts

abbrev pub decreases-loop-g : goal.decreases-loop-g
decreases-loop-g l = 31 - l.g

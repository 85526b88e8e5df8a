-- `transforms::bins::all_bins` meets its contract. Assumes nothing.
use Rattle.std.specs.Prelude.{◌-◌, ◌*◌}
use Rattle.transforms.specs.Private.{Keeps, bin_part}
use Rattle.transforms.proofs.bins.all_bins.Given as goal

abbrev pub invariant-loop-g : goal.invariant-loop-g
invariant-loop-g l = Keeps (bin_part l.x 960) (32 * l.g) l.parts

abbrev pub decreases-loop-g : goal.decreases-loop-g
decreases-loop-g l = 31 - l.g

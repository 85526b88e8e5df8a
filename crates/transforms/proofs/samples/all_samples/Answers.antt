-- `transforms::samples::all_samples` meets its contract. Assumes nothing.
use Rattle.transforms.proofs.Stored.{none_kept}
use Rattle.transforms.proofs.samples.all_samples.Goals as goal

pub loop-g-init : goal.loop-g-init
loop-g-init c = none_kept _ _

-- `matrix::lanes::take_four` meets its contract. Assumes nothing.
use mathlib.Core.Path.{refl}
use Rattle.matrix.specs.Private.{four_at}
use Rattle.matrix.proofs.lanes.take_four.Goals as goal

pub returns : goal.returns
unfolding four_at
returns c = refl

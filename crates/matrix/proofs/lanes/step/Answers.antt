-- `matrix::lanes::step` meets its contract. Assumes nothing.
use Rattle.matrix.specs.Private.{plus_sixteen}
use Rattle.matrix.proofs.lanes.step.Goals as goal

pub returns : goal.returns
unfolding plus_sixteen
returns c = cc

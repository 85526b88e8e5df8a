-- `matrix::lanes::take_sixteen` meets its contract. Assumes nothing.
use Rattle.matrix.specs.Private.{sixteen_at}
use Rattle.matrix.proofs.lanes.take_sixteen.Goals as goal

pub returns : goal.returns
unfolding sixteen_at
returns c = cc

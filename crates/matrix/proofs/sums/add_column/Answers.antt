-- `matrix::sums::add_column` meets its contract. Assumes nothing.
use Rattle.rules.proofs.Loops.{turns}
use Rattle.matrix.proofs.sums.add_column.Goals as goal

pub loop-j-init : goal.loop-j-init
loop-j-init c = search turns

pub loop-j-preserved : goal.loop-j-preserved
loop-j-preserved c = search (turns, c.weight.ensures)

pub returns : goal.returns
returns c = search turns

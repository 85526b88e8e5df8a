-- `finder::kept::whole_lag` meets its contract. Assumes nothing.
use Rattle.rules.proofs.Loops.{turns}
use Rattle.finder.specs.Kept.{whole_lag}
use Rattle.finder.proofs.kept.whole_lag.Goals as goal

pub loop-k-init : goal.loop-k-init
unfolding whole_lag
loop-k-init c = search turns

pub loop-k-preserved : goal.loop-k-preserved
unfolding whole_lag
loop-k-preserved c = search (turns, c.nearer-lag.ensures)

pub returns : goal.returns
unfolding whole_lag
returns c = search turns

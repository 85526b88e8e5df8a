-- `finder::search::every_second` meets its contract. Assumes nothing.
use Rattle.rules.proofs.Lists.{fills}
use Rattle.finder.proofs.search.every_second.Goals as goal

pub loop-j-init : goal.loop-j-init
loop-j-init c = search fills

pub loop-j-preserved : goal.loop-j-preserved
loop-j-preserved c = search fills

-- `numbers::lists::places` meets its contract. Assumes nothing.
use Rattle.rules.proofs.Lists.{fills}
use Rattle.numbers.proofs.lists.places.Goals as goal

pub loop-j-init : goal.loop-j-init
loop-j-init c = search fills

pub loop-j-preserved : goal.loop-j-preserved
loop-j-preserved c = search (fills, rw c.inside.ensures.0 at c.place_of.ensures)

pub returns : goal.returns
returns c = search fills

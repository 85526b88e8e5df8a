-- `pieces::waiting::join` meets its contract. Assumes nothing.
use Rattle.rules.proofs.Lists.{fills}
use Rattle.pieces.specs.Pieces.{padded_to}
use Rattle.pieces.proofs.waiting.join.Goals as goal

pub loop-i-init : goal.loop-i-init
unfolding padded_to
loop-i-init c = search fills

pub pick-requires : goal.pick-requires
unfolding padded_to
pick-requires c = search fills

pub loop-i-preserved : goal.loop-i-preserved
unfolding padded_to
loop-i-preserved c = search (fills, c.pick.ensures)

pub returns : goal.returns
unfolding padded_to
returns c = search fills

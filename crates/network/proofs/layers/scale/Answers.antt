-- `network::layers::scale` meets its contract. Assumes nothing.
use Rattle.rules.proofs.Lists.{maps}
use Rattle.network.proofs.layers.scale.Goals as goal

pub loop-j-init : goal.loop-j-init
loop-j-init c = search maps

pub loop-j-preserved : goal.loop-j-preserved
loop-j-preserved c = search maps

pub returns : goal.returns
returns c = search maps

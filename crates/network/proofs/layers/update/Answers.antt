-- `network::layers::update` meets its contract. Assumes nothing.
use Rattle.network.proofs.Listed.{updated}
use Rattle.network.proofs.layers.update.Goals as goal

pub returns : goal.returns
returns c =
    updated c.args.table.now.entries c.args.gates.now c.args.table.now.filled c.scale.ensures
    c.sigmoids.ensures

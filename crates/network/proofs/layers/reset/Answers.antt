-- `network::layers::reset` meets its contract. Assumes nothing.
use Rattle.network.proofs.Listed.{reset_joined}
use Rattle.network.proofs.layers.reset.Goals as goal

pub returns : goal.returns
returns c =
    reset_joined c.args.state.now c.args.r.now c.update.ensures c.update.auto.gates
    c.times.ensures

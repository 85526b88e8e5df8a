-- `network::layers::dense` meets its contract. Assumes nothing.
use Rattle.network.proofs.Joined.{dense_joined}
use Rattle.network.proofs.layers.dense.Goals as goal

pub returns : goal.returns
returns c =
    let activate = c.activate in
    dense_joined _ _ _ _ c.requires c.copy_weights.ensures c.copy_weights.auto.out
    c.mul_add_at.ensures c.mul_add_at.auto.output
    activate.ensures

-- `network::layers::gate_sums` meets its contract. Assumes nothing.
use Rattle.network.proofs.Joined.{sums_joined}
use Rattle.network.proofs.layers.gate_sums.Goals as goal

pub returns : goal.returns
returns c =
    let pre = c.requires in
    sums_joined _ _ _ _ _ _ _ pre c.copy_weights.ensures c.copy_weights.auto.out
    c.mul_add_at.ensures c.mul_add_at.auto.output
    c.mul_add_at-2.ensures

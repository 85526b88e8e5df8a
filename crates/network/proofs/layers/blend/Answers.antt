-- `network::layers::blend` meets its contract. Assumes nothing.
use Rattle.network.proofs.Listed.{blend_joined}
use Rattle.network.proofs.layers.blend.Goals as goal

pub returns : goal.returns
returns c =
    blend_joined c.args.activation c.args.z.now c.args.h.now c.args.state.now
    c.requires.1 c.activate.ensures c.mix.ensures

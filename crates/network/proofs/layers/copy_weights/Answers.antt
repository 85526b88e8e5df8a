-- `network::layers::copy_weights` meets its contract. Assumes nothing.
use Rattle.rules.proofs.Common.{◌∙◌, length}
use native.Mathlib.Omega.{arith}
use Rattle.rules.proofs.Lists.{filling_ended, fills, tab_map}
use Rattle.matrix.specs.Sums.{of_byte}
use Rattle.network.proofs.layers.copy_weights.Goals as goal

pub loop-j-init : goal.loop-j-init
loop-j-init c = search fills

pub weight-requires : goal.weight-requires
weight-requires c = search fills

pub loop-j-preserved : goal.loop-j-preserved
loop-j-preserved c = search (fills, c.weight.ensures)

pub returns : goal.returns
returns c =
    let l = c.loop-j in
    filling_ended _ _ l.j (length c.args.bytes.now) (omega arith) (omega arith) c.requires l.invariant.2
    ∙ tab_map of_byte 0 c.args.bytes.now

-- `matrix::lanes::wide` meets its contract. Assumes nothing.
use mathlib.Core.Path.{◌∙◌}
use Rattle.matrix.proofs.Neurons.{both_orders}
use Rattle.matrix.proofs.lanes.wide.Goals as goal

pub ordered-requires : goal.ordered-requires
ordered-requires c = (
  c.blocks-2.auto.kept
      ∙ c.requires.places,
  c.requires.even,
)

pub returns : goal.returns
returns c =
    both_orders
    _ _ _ c.requires.even c.blocks-2.ensures
    c.ordered.ensures

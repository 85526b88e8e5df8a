-- `network::layers::gru` meets its contract. Assumes nothing.
use mathlib.Core.Path.{refl, ◌∙◌}
use native.Mathlib.Omega.{arith}
use Rattle.network.proofs.Joined.{gate_fits, gru_joined}
use Rattle.network.proofs.layers.gru.Goals as goal

-- the slices keep the state's length through each call
pub gate_sums-requires : goal.gate_sums-requires
gate_sums-requires c = gate_fits c.requires.arrays c.requires.lent.update refl (omega arith)

pub gate_sums-requires-2 : goal.gate_sums-requires-2
gate_sums-requires-2 c = gate_fits c.requires.arrays c.requires.lent.reset refl (omega arith)

pub reset-requires : goal.reset-requires
reset-requires c = c.gate_sums-2.auto.out ∙ c.requires.lent.reset

pub gate_sums-requires-3 : goal.gate_sums-requires-3
gate_sums-requires-3 c =
    gate_fits c.requires.arrays c.requires.lent.new
    (c.reset.auto.r ∙ c.gate_sums-2.auto.out ∙ c.requires.lent.reset) (omega arith)

pub blend-requires : goal.blend-requires
blend-requires c = (
  c.update.auto.gates ∙ c.gate_sums.auto.out ∙ c.requires.lent.update,
  c.gate_sums-3.auto.out ∙ c.requires.lent.new,
)

pub shape_of-z : goal.shape_of-z
shape_of-z c = c.update.auto.gates ∙ c.gate_sums.auto.out

pub returns : goal.returns
returns c =
    let same = c.requires.lent in
    gru_joined _ _ _ _ _ _ same.update c.gate_sums.ensures
    (c.gate_sums.auto.out ∙ same.update) c.update.ensures
    same.reset c.gate_sums-2.ensures (c.gate_sums-2.auto.out ∙ same.reset)
    c.reset.ensures
    same.new c.gate_sums-3.ensures c.blend.ensures

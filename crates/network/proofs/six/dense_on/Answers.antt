-- `network::six::dense_on` meets its contract. Assumes nothing.
use mathlib.Core.Path.{refl, ap, ◌∙◌}
use Rattle.network.specs.Compute.{dense_at}
use Rattle.network.proofs.Parts.{cut_length, cut}
use Rattle.network.proofs.six.dense_on.Goals as goal

pub dense-requires : goal.dense-requires
dense-requires c =
    let long = cut_length c.args.states.now c.args.at _ c.args.n refl c.requires.0 in
    rw long c.requires.1

pub returns : goal.returns
returns c =
    let a = c.args in
    c.dense.ensures
    ∙ ap (dense_at a.bytes.now a.h)
    (cut a.states.now a.at _ (record { at = a.at; size = a.n }) refl refl)

-- `network::layers::scale` meets its contract. Assumes nothing.
use Rattle.std.specs.Prelude.{◌≤◌, ◌≡◌}
use Rattle.rules.proofs.Common.{length, nan}
use Rattle.rules.specs.F32.{◌⊗◌}
use Rattle.rules.proofs.Lists.{Mapping}
use Rattle.network.specs.Layers.{weights_scale}
use Rattle.network.proofs.layers.scale.Given as goal

abbrev pub invariant-loop-x : goal.invariant-loop-x
invariant-loop-x l = (l.x-index ≤ l.x-index-end) × (l.x-index-end ≡ length l.initial.xs)
    × Mapping (λ x. weights_scale ⊗ x) nan l.initial.xs l.x-index l.xs

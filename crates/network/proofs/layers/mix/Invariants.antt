-- `network::layers::mix` meets its contract. Assumes nothing.
use Rattle.std.specs.Prelude.{◌≤◌, ◌≡◌}
use Rattle.rules.proofs.Common.{length}
use Rattle.rules.specs.Loop.{loop}
use Rattle.network.specs.Private.{mix_step}
use Rattle.network.proofs.layers.mix.Given as goal

abbrev pub invariant-loop-j : goal.invariant-loop-j
invariant-loop-j l = (l.j ≤ l.j-end) × (l.j-end ≡ length l.initial.state) × (length l.state ≡ length l.initial.state)
    × (l.state ≡ loop l.j (mix_step l.z l.new) l.initial.state)

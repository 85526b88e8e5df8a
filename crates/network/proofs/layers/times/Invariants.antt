-- `network::layers::times` meets its contract. Assumes nothing.
use Rattle.std.specs.Prelude.{◌≤◌, ◌≡◌}
use Rattle.rules.proofs.Common.{length}
use Rattle.rules.specs.Loop.{loop}
use Rattle.network.specs.Private.{times_step}
use Rattle.network.proofs.layers.times.Given as goal

abbrev pub invariant-loop-j : goal.invariant-loop-j
invariant-loop-j l = (l.j ≤ l.j-end) × (l.j-end ≡ length l.initial.gates) × (length l.gates ≡ length l.initial.gates)
    × (l.gates ≡ loop l.j (times_step l.state) l.initial.gates)

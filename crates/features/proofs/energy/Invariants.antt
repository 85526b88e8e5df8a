-- `features::energy` meets its contract. Assumes nothing.
use Rattle.std.specs.Prelude.{◌≡◌}
use Rattle.rules.specs.Loop.{loop}
use Rattle.features.specs.Silence.{energy_step}
use Rattle.features.proofs.energy.Given as goal

abbrev pub invariant-loop-x : goal.invariant-loop-x
invariant-loop-x l = l.e ≡ loop l.x-index (energy_step l.ex) l.initial.e

-- `features::cepstra::spectral_variability` meets its contract. Assumes nothing.
use Rattle.std.specs.Prelude.{◌≡◌}
use Rattle.rules.specs.Loop.{loop}
use Rattle.features.specs.Cepstra.{variability_step}
use Rattle.features.proofs.cepstra.spectral_variability.Given as goal

abbrev pub invariant-loop-index : goal.invariant-loop-index
invariant-loop-index l = l.sum ≡ loop l.index (variability_step l.mem) l.initial.sum

-- `features::cepstra::nearest_row` meets its contract. Assumes nothing.
use Rattle.std.specs.Prelude.{◌≡◌}
use Rattle.rules.specs.Loop.{loop}
use Rattle.features.specs.Cepstra.{nearest_step}
use Rattle.features.proofs.cepstra.nearest_row.Given as goal

abbrev pub invariant-loop-index : goal.invariant-loop-index
invariant-loop-index l = l.least ≡ loop l.index (nearest_step l.mem l.i.index) l.initial.least

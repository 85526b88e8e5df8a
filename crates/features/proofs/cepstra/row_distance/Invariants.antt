-- `features::cepstra::row_distance` meets its contract. Assumes nothing.
use Rattle.std.specs.Prelude.{◌≡◌}
use Rattle.rules.specs.Loop.{loop}
use Rattle.features.specs.Cepstra.{dist_step}
use Rattle.features.proofs.cepstra.row_distance.Given as goal

abbrev pub invariant-loop-k : goal.invariant-loop-k
invariant-loop-k l = l.dist ≡ loop l.k (dist_step l.mem l.fn.i.index l.fn.j.index) l.initial.dist

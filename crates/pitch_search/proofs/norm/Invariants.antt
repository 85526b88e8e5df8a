-- `pitch_search::norm` meets its contract. Assumes nothing.
use Rattle.std.specs.Prelude.{◌≡◌}
use Rattle.rules.specs.Loop.{loop}
use Rattle.pitch_search.specs.Best.{norm_step}
use Rattle.pitch_search.proofs.norm.Given as goal

abbrev pub invariant-loop-y : goal.invariant-loop-y
invariant-loop-y l = l.sum ≡ loop l.y-index (norm_step l.ys) l.initial.sum

-- `features::cepstra::follow_logs` meets its contract. Assumes nothing.
use Rattle.std.specs.Prelude.{◌≡◌}
use Rattle.rules.specs.F32.{at}
use Rattle.rules.specs.Loop.{loop}
use Rattle.rules.proofs.Lists.{Filling}
use Rattle.features.specs.Cepstra.{floors_of, ly_of, floor_step, floors}
use Rattle.features.proofs.cepstra.follow_logs.Given as goal

abbrev pub invariant-loop-i : goal.invariant-loop-i
invariant-loop-i l = (floors_of l.log_max l.follow
    ≡ loop l.i (floor_step l.logs) (floors_of l.initial.log_max l.initial.follow))
    × Filling (λ k. ly_of (at l.logs k) (floors l.logs k)) l.initial.ly l.i l.ly

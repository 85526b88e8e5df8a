-- `finder::kept::whole_lag` meets its contract. Assumes nothing.
use Rattle.std.specs.Prelude.{◌-◌, ◌≤◌, ◌≡◌}
use Rattle.rules.specs.Loop.{range}
use Rattle.finder.specs.Kept.{lag_step}
use Rattle.finder.proofs.kept.whole_lag.Given as goal

abbrev pub invariant-loop-k : goal.invariant-loop-k
invariant-loop-k l = (1 ≤ l.k) × (l.k ≤ 769) × (l.lag ≡ range 1 l.k (lag_step l.x) 0)

abbrev pub decreases-loop-k : goal.decreases-loop-k
decreases-loop-k l = 769 - l.k

-- `transforms::bins::four_bins` meets its contract. Assumes nothing.
use Rattle.std.specs.Prelude.{◌-◌, ◌%◌, ◌≤◌, ◌≡◌}
use Rattle.transforms.proofs.bins.four_bins.Given as goal

abbrev pub invariant-loop-run : goal.invariant-loop-run
invariant-loop-run l = (l.run.x.now ≡ l.x) × (l.run.m.k ≡ l.k) × (l.run.m.n % 4 ≡ 0) × (l.run.m.n ≤ 960)

abbrev pub decreases-loop-run : goal.decreases-loop-run
decreases-loop-run l = 960 - l.run.m.n

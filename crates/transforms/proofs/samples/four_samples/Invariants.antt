-- `transforms::samples::four_samples` meets its contract. Assumes nothing.
use Rattle.std.specs.Prelude.{◌-◌, ◌%◌, ◌≤◌, ◌≡◌}
use Rattle.transforms.proofs.samples.four_samples.Given as goal

abbrev pub invariant-loop-run : goal.invariant-loop-run
invariant-loop-run l = (l.run.x.now ≡ l.x) × (l.run.m.k ≡ l.n) × (l.run.m.n % 4 ≡ 1) × (l.run.m.n ≤ 477)

abbrev pub decreases-loop-run : goal.decreases-loop-run
decreases-loop-run l = 477 - l.run.m.n

-- `samples::all_good` meets its contract. Assumes nothing.
use Rattle.std.specs.Prelude.{◌&&◌, ◌≡◌}
use Rattle.rules.proofs.Common.{drop}
use Rattle.samples.specs.Samples.{good}
use Rattle.samples.proofs.all_good.Given as goal

abbrev pub invariant-loop-x : goal.invariant-loop-x
invariant-loop-x l = good l.samples ≡ l.so_far && good (drop l.x-index l.samples)

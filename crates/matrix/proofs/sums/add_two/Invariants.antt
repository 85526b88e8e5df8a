-- `matrix::sums::add_two` meets its contract. Assumes nothing.
use Rattle.std.specs.Prelude.{◌≡◌}
use Rattle.rules.specs.Loop.{loop}
use Rattle.matrix.proofs.Columns.{two_step}
use Rattle.matrix.proofs.sums.add_two.Given as goal

abbrev pub invariant-loop-j : goal.invariant-loop-j
invariant-loop-j l = l.out ≡ loop l.j (two_step l.first l.x l.second l.y) l.initial.out

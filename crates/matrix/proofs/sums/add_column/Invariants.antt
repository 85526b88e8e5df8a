-- `matrix::sums::add_column` meets its contract. Assumes nothing.
use Rattle.std.specs.Prelude.{◌≡◌}
use Rattle.rules.specs.Loop.{loop}
use Rattle.matrix.specs.Sums.{column_step}
use Rattle.matrix.proofs.sums.add_column.Given as goal

abbrev pub invariant-loop-j : goal.invariant-loop-j
invariant-loop-j l = l.out ≡ loop l.j (column_step l.col l.x) l.initial.out

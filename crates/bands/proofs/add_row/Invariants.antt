-- `bands::add_row` meets its contract. Assumes nothing.
use Rattle.std.specs.Prelude.{◌+◌}
use Rattle.rules.specs.Loop.{loop}
use Rattle.rules.specs.F32.{f32}
use Rattle.rules.proofs.Lists.{Filling}
use Rattle.bands.specs.Dct.{dct_step}
use Rattle.bands.proofs.add_row.Given as goal

abbrev pub invariant-loop-i : goal.invariant-loop-i
invariant-loop-i l = Filling (λ k. loop (l.j + 1) (dct_step l.table l.x k) (f32 0)) l.initial.sums l.i l.sums

-- `bands::add_rows` meets its contract. Assumes nothing.
use Rattle.std.specs.Prelude.{◌≡◌}
use Rattle.bands.specs.Private.{sums_after}
use Rattle.bands.proofs.add_rows.Given as goal

abbrev pub invariant-loop-j : goal.invariant-loop-j
invariant-loop-j l = l.sums ≡ sums_after l.table l.x l.j

-- `bands::fill_band` meets its contract. Assumes nothing.
use Rattle.std.specs.Prelude.{◌≡◌}
use Rattle.rules.specs.Loop.{loop}
use Rattle.bands.specs.Bands.{gain_step}
use Rattle.bands.proofs.fill_band.Given as goal

abbrev pub invariant-loop-j : goal.invariant-loop-j
invariant-loop-j l = l.out ≡ loop l.j (gain_step l.bands l.i) l.initial.out

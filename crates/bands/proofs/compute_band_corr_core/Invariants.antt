-- `bands::compute_band_corr_core` meets its contract. The loop begins at band 1, after band 0. Assumes nothing.
use Rattle.std.specs.Prelude.{◌≡◌}
use Rattle.rules.specs.Loop.{loop}
use Rattle.rules.specs.F32.{zeros}
use Rattle.bands.specs.Bands.{in_band, corr_step}
use Rattle.bands.proofs.compute_band_corr_core.Given as goal

abbrev pub invariant-loop-i : goal.invariant-loop-i
invariant-loop-i l = l.out ≡ loop l.i (in_band (corr_step l.x l.p)) (zeros 22)

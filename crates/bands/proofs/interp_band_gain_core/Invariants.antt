-- `bands::interp_band_gain_core` meets its contract. Assumes nothing.
use Rattle.std.specs.Prelude.{◌≡◌}
use Rattle.rules.specs.Loop.{loop}
use Rattle.rules.specs.F32.{zeros}
use Rattle.bands.specs.Bands.{in_band, gain_step}
use Rattle.bands.proofs.interp_band_gain_core.Given as goal

abbrev pub invariant-loop-i : goal.invariant-loop-i
invariant-loop-i l = l.out ≡ loop l.i (in_band (gain_step l.bands)) (zeros 481)

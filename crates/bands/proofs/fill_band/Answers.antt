-- `bands::fill_band` meets its contract: a turn of its loop. Assumes nothing.
use Rattle.rules.proofs.Loops.{more}
use Rattle.bands.specs.Bands.{frac, gain_step}
use Rattle.bands.proofs.fill_band.Goals as goal

pub loop-j-preserved : goal.loop-j-preserved
unfolding gain_step frac
loop-j-preserved c =
    let b = c.band-start.ensures in
    more _ _ _ c.loop-j.invariant (rw (b.0, b.1))

-- `features::pitch::gains_of` meets its contract. Assumes nothing.
use Rattle.rules.specs.F32.{at}
use Rattle.rules.proofs.Lists.{Filling}
use Rattle.features.specs.Pitch.{band_pitch_gain}
use Rattle.features.proofs.pitch.gains_of.Given as goal

abbrev pub invariant-loop-i : goal.invariant-loop-i
invariant-loop-i l = Filling (λ k. band_pitch_gain (at l.gains k) (at l.exp k) (at l.ex k) (at l.ep k))
    l.initial.r l.i l.r

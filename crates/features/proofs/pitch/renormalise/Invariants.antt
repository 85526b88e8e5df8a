-- `features::pitch::renormalise` meets its contract. Assumes nothing.
use Rattle.rules.specs.F32.{at}
use Rattle.rules.proofs.Lists.{Filling}
use Rattle.features.specs.Pitch.{ratio}
use Rattle.features.proofs.pitch.renormalise.Given as goal

abbrev pub invariant-loop-i : goal.invariant-loop-i
invariant-loop-i l = Filling (λ k. ratio (at l.ex k) (at l.initial.e k)) l.initial.e l.i l.e

-- `pitch::floor` meets its contract. Assumes nothing.
use Rattle.rules.specs.F32.{at}
use Rattle.rules.proofs.Lists.{Filling}
use Rattle.pitch.specs.Downsample.{floored_at}
use Rattle.pitch.proofs.floor.Given as goal

abbrev pub invariant-loop-i : goal.invariant-loop-i
invariant-loop-i l = Filling (λ i. floored_at (at l.initial.ac i) i) l.initial.ac l.i l.ac

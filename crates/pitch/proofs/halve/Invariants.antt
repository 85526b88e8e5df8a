-- `pitch::halve` meets its contract. Assumes nothing.
use Rattle.rules.proofs.Lists.{Filling}
use Rattle.pitch.specs.Downsample.{halved_at}
use Rattle.pitch.proofs.halve.Given as goal

abbrev pub invariant-loop-i : goal.invariant-loop-i
invariant-loop-i l = Filling (halved_at l.x) l.initial.x_lp l.i l.x_lp

-- `features::hold_each` meets its contract. Assumes nothing.
use Rattle.rules.specs.F32.{at}
use Rattle.rules.proofs.Lists.{Filling}
use Rattle.features.specs.Gains.{at_least}
use Rattle.features.proofs.hold_each.Given as goal

abbrev pub invariant-loop-i : goal.invariant-loop-i
invariant-loop-i l = Filling (λ k. at_least (at l.initial.g k) (at l.initial.last k)) l.initial.g l.i l.g
    × Filling (λ k. at_least (at l.initial.g k) (at l.initial.last k)) l.initial.last l.i l.last

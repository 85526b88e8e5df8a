-- `numbers::lists::curves` meets its contract. Assumes nothing.
use Rattle.rules.specs.F32.{at}
use Rattle.rules.proofs.Lists.{Filling}
use Rattle.numbers.specs.Private.{followed}
use Rattle.numbers.proofs.lists.curves.Given as goal

abbrev pub invariant-loop-j : goal.invariant-loop-j
invariant-loop-j l = Filling (λ k. followed (at l.initial.xs k) (at l.spare k)) l.initial.xs l.j l.xs

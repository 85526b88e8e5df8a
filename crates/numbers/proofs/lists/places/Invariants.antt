-- `numbers::lists::places` meets its contract. Assumes nothing.
use Rattle.rules.specs.F32.{at}
use Rattle.rules.proofs.Lists.{Filling}
use Rattle.numbers.specs.Private.{place_in}
use Rattle.numbers.proofs.lists.places.Given as goal

abbrev pub invariant-loop-j : goal.invariant-loop-j
invariant-loop-j l = Filling (λ k. place_in (at l.xs k)) l.initial.spare l.j l.spare

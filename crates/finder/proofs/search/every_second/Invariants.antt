-- `finder::search::every_second` meets its contract. Assumes nothing.
use Rattle.std.specs.Prelude.{◌*◌}
use Rattle.rules.specs.F32.{at}
use Rattle.rules.proofs.Lists.{Filling}
use Rattle.finder.proofs.search.every_second.Given as goal

abbrev pub invariant-loop-j : goal.invariant-loop-j
invariant-loop-j l = Filling (λ j. at l.xs (2 * j)) l.initial.out l.j l.out

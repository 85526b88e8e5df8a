-- `finder::search::correlations` meets its contract. Assumes nothing.
use Rattle.rules.proofs.Lists.{Filling}
use Rattle.finder.specs.Search.{fine_at}
use Rattle.finder.proofs.search.correlations.Given as goal

abbrev pub invariant-loop-i : goal.invariant-loop-i
invariant-loop-i l = Filling (fine_at l.buf l.near.first l.near.second) l.initial.xcorr l.i l.xcorr

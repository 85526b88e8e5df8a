-- `logs::logs` meets its contract: the first i places hold the logarithms of the first i sums. Assumes nothing.
use Rattle.rules.specs.F32.{at}
use Rattle.rules.proofs.Lists.{Filling}
use Rattle.logs.specs.Log10.{log10_of}
use Rattle.logs.proofs.logs.Given as goal

abbrev pub invariant-loop-i : goal.invariant-loop-i
invariant-loop-i l = Filling (λ k. log10_of (at l.sums k)) l.initial.out l.i l.out

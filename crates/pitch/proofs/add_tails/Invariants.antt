-- `pitch::add_tails` meets its contract. Assumes nothing.
use Rattle.rules.specs.F32.{at, ◌⊕◌}
use Rattle.rules.proofs.Lists.{Filling}
use Rattle.pitch.specs.Autocorr.{tail_of}
use Rattle.pitch.proofs.add_tails.Given as goal

abbrev pub invariant-loop-k : goal.invariant-loop-k
invariant-loop-k l = Filling (λ k. at l.initial.ac k ⊕ tail_of l.x k l.from) l.initial.ac l.k l.ac

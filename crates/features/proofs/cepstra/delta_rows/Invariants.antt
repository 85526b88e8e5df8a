-- `features::cepstra::delta_rows` meets its contract. Assumes nothing.
use Rattle.rules.proofs.Lists.{Filling}
use Rattle.features.specs.Cepstra.{cell}
use Rattle.features.specs.Private.{delta_of}
use Rattle.features.proofs.cepstra.delta_rows.Given as goal

abbrev pub invariant-loop-i : goal.invariant-loop-i
invariant-loop-i l = Filling (λ k. delta_of l.kind (cell l.mem l.fn.c0.index k) (cell l.mem l.fn.c1.index k)
    (cell l.mem l.fn.c2.index k)) l.initial.out l.i l.out

-- `bands::apply_table` meets its contract. Assumes nothing.
use Rattle.rules.specs.F32.{◌⊗◌, at}
use Rattle.rules.proofs.Lists.{Filling}
use Rattle.bands.proofs.apply_table.Given as goal

abbrev pub invariant-loop-i : goal.invariant-loop-i
invariant-loop-i l = Filling (λ k. at l.initial.xs k ⊗ at l.table k) l.initial.xs l.i l.xs

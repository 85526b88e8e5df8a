-- `bands::apply_window_core` meets its contract. Assumes nothing.
use Rattle.rules.specs.F32.{◌⊗◌, at}
use Rattle.rules.proofs.Lists.{Filling}
use Rattle.bands.proofs.apply_window_core.Given as goal

abbrev pub invariant-loop-i : goal.invariant-loop-i
invariant-loop-i l = Filling (λ k. at l.input k ⊗ at l.table k) l.initial.output l.i l.output

-- `bands::scale_sums` meets its contract. Assumes nothing.
use Rattle.rules.specs.F32.{at}
use Rattle.rules.proofs.Lists.{Filling}
use Rattle.bands.specs.Dct.{dct_scaled}
use Rattle.bands.proofs.scale_sums.Given as goal

abbrev pub invariant-loop-sum : goal.invariant-loop-sum
invariant-loop-sum l = Filling (λ k. dct_scaled (at l.initial.sums k)) l.initial.sums l.sum-index l.sums

-- `pitch::lanes::add_products` meets its contract. Assumes nothing.
use Rattle.std.specs.Prelude.{◌+◌}
use Rattle.rules.specs.F32.{at, ◌⊕◌, ◌⊗◌}
use Rattle.rules.proofs.Lists.{Filling}
use Rattle.pitch.proofs.lanes.add_products.Given as goal

abbrev pub invariant-loop-k : goal.invariant-loop-k
invariant-loop-k g l = Filling (λ k. at l.initial.sums k ⊕ l.x ⊗ at l.ys (l.p + k)) l.initial.sums l.k l.sums

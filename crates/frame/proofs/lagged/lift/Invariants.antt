-- `frame::lagged::lift` meets its contract. The loop's invariant: the first i energies are plusHundredth, and the
-- others are as they were. Assumes nothing.
use Rattle.std.specs.Prelude.{◌-◌, ◌≤◌}
use Rattle.rules.specs.F32.{◌⊕◌, at, f32}
use Rattle.rules.proofs.Lists.{Filling}
use Rattle.frame.proofs.lagged.lift.Given as goal

abbrev pub invariant-loop-energy : goal.invariant-loop-energy
invariant-loop-energy l = (l.energy-index ≤ 22)
    × Filling (λ k. f32 0x3C23D70A ⊕ at l.initial.ex k) l.initial.ex l.energy-index l.ex

abbrev pub decreases-loop-energy : goal.decreases-loop-energy
decreases-loop-energy l = 22 - l.energy-index

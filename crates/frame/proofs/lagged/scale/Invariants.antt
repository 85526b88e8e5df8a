-- `frame::lagged::scale` meets its contract. The loop's invariant: the first i places are scaled, and the others are as
-- they were. Assumes nothing.
use Prim.Native.Nat.{◌≤◌, ◌-◌}
use Rattle.rules.specs.F32.{◌⊗◌, at}
use Rattle.rules.proofs.Lists.{Filling}
use Rattle.bands.specs.Norm.{wnorm}
use Rattle.frame.proofs.lagged.scale.Given as goal

abbrev pub invariant-loop-i : goal.invariant-loop-i
invariant-loop-i l = (l.i ≤ 961) × Filling (λ k. at l.spectrum k ⊗ wnorm) l.initial.out l.i l.out

abbrev pub decreases-loop-i : goal.decreases-loop-i
decreases-loop-i l = 961 - l.i

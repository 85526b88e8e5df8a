-- `fft::forwards::pack` meets its contract. Assumes nothing.
use Rattle.std.specs.Prelude.{◌-◌, ◌*◌, ◌≤◌}
use Rattle.fft.specs.Single.{single}
use Rattle.fft.specs.Fast.{pair}
use Rattle.fft.specs.Private.{Laid}
use Rattle.fft.proofs.forwards.pack.Given as goal

abbrev pub invariant-loop-b : goal.invariant-loop-b
invariant-loop-b l = (l.b ≤ 120) × Laid 1 480 (λ j k. pair single l.x j) (4 * l.b) l.out

abbrev pub decreases-loop-b : goal.decreases-loop-b
decreases-loop-b l = 120 - l.b

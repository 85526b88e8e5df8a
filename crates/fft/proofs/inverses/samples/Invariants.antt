-- `fft::inverses::samples` meets its contract. Assumes nothing.
use Rattle.std.specs.Prelude.{◌-◌, ◌*◌, ◌≤◌, ◌≡◌}
use Rattle.rules.proofs.Common.{length}
use Rattle.fft.specs.Single.{single}
use Rattle.rules.proofs.Lists.{Filling}
use Rattle.fft.specs.Fast.{sample_out}
use Rattle.fft.proofs.inverses.samples.Given as goal

abbrev pub invariant-loop-i : goal.invariant-loop-i
invariant-loop-i l = (l.i ≤ 480) × (length l.initial.out ≡ 960)
    × Filling (sample_out single l.z) l.initial.out (2 * l.i) l.out

abbrev pub decreases-loop-i : goal.decreases-loop-i
decreases-loop-i l = 480 - l.i

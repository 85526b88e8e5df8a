-- `fft::forwards::middle_bins` meets its contract. Assumes nothing.
use Rattle.std.specs.Prelude.{◌+◌, ◌-◌, ◌*◌, ◌≤◌}
use Rattle.fft.specs.Single.{single, of}
use Rattle.fft.specs.Fast.{number_out}
use Rattle.fft.specs.Private.{Filled}
use Rattle.fft.proofs.forwards.middle_bins.Given as goal

abbrev pub invariant-loop-b : goal.invariant-loop-b
invariant-loop-b l = (l.b ≤ 119) × Filled 961 (number_out single (of l.c) l.z) (8 * l.b + 1) l.out

abbrev pub decreases-loop-b : goal.decreases-loop-b
decreases-loop-b l = 119 - l.b

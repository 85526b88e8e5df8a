-- `fft::stages::stage5` meets its contract. Assumes nothing.
use Rattle.std.specs.Prelude.{◌-◌, ◌*◌, ◌≤◌}
use Rattle.fft.specs.Fast.{row5}
use Rattle.fft.specs.Single.{single, of}
use Rattle.fft.specs.Private.{Laid}
use Rattle.fft.proofs.stages.stage5.Given as goal

abbrev pub invariant-loop-b : goal.invariant-loop-b
invariant-loop-b l = (l.b ≤ 12) × Laid 5 96 (row5 single (of l.c) l.z) (8 * l.b) l.out

abbrev pub decreases-loop-b : goal.decreases-loop-b
decreases-loop-b l = 12 - l.b

-- `fft::stages::stage4` meets its contract. Assumes nothing.
use Rattle.std.specs.Prelude.{◌-◌, ◌*◌, ◌≤◌}
use Rattle.fft.specs.Fast.{row4}
use Rattle.fft.specs.Single.{single, of}
use Rattle.fft.specs.Private.{Laid}
use Rattle.fft.proofs.stages.stage4.Given as goal

abbrev pub invariant-loop-b : goal.invariant-loop-b
invariant-loop-b l = (l.b ≤ 30) × Laid 4 120 (row4 single (of l.c) 8 l.z) (4 * l.b) l.out

abbrev pub decreases-loop-b : goal.decreases-loop-b
decreases-loop-b l = 30 - l.b

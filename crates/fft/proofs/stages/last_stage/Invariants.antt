-- `fft::stages::last_stage` meets its contract. Assumes nothing.
use Rattle.std.specs.Prelude.{◌-◌, ◌*◌, ◌≤◌}
use Rattle.fft.specs.Fast.{row4}
use Rattle.fft.specs.Single.{single, of}
use Rattle.fft.specs.Private.{Laid}
use Rattle.fft.proofs.stages.last_stage.Given as goal

abbrev pub invariant-loop-b : goal.invariant-loop-b
invariant-loop-b l = (l.b ≤ 15) × Laid 4 120 (row4 single (of l.c) 1 l.z) (8 * l.b) l.out

abbrev pub decreases-loop-b : goal.decreases-loop-b
decreases-loop-b l = 15 - l.b

-- `fft::stages::stage2` meets its contract. Assumes nothing.
use Rattle.std.specs.Prelude.{◌-◌, ◌*◌, ◌≤◌}
use Rattle.fft.specs.Fast.{row2}
use Rattle.fft.specs.Single.{single, of}
use Rattle.fft.specs.Private.{Laid}
use Rattle.fft.proofs.stages.stage2.Given as goal

abbrev pub invariant-loop-b : goal.invariant-loop-b
invariant-loop-b l = (l.b ≤ 15) × Laid 2 240 (row2 single (of l.c) 4 l.z) (16 * l.b) l.out

abbrev pub decreases-loop-b : goal.decreases-loop-b
decreases-loop-b l = 15 - l.b

-- `fft::stages::stage3` meets its contract. Assumes nothing.
use Rattle.std.specs.Prelude.{◌-◌, ◌*◌, ◌≤◌}
use Rattle.fft.specs.Fast.{row3}
use Rattle.fft.specs.Single.{single, of}
use Rattle.fft.specs.Private.{Laid}
use Rattle.fft.proofs.stages.stage3.Given as goal

abbrev pub invariant-loop-b : goal.invariant-loop-b
invariant-loop-b l = (l.b ≤ 40) × Laid 3 160 (row3 single (of l.c) 32 l.z) (4 * l.b) l.out

abbrev pub decreases-loop-b : goal.decreases-loop-b
decreases-loop-b l = 40 - l.b

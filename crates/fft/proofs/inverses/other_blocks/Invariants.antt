-- `fft::inverses::other_blocks` meets its contract. Assumes nothing.
use Rattle.std.specs.Prelude.{◌+◌, ◌-◌, ◌*◌, ◌≤◌}
use Rattle.fft.specs.Single.{single, of}
use Rattle.fft.specs.Fast.{merged_at}
use Rattle.fft.specs.Private.{Laid}
use Rattle.fft.proofs.inverses.other_blocks.Given as goal

abbrev pub invariant-loop-b : goal.invariant-loop-b
invariant-loop-b l = (l.b ≤ 119) × Laid 1 480 (λ j k. merged_at single (of l.c) l.x j) (4 * l.b + 4) l.out

abbrev pub decreases-loop-b : goal.decreases-loop-b
decreases-loop-b l = 119 - l.b

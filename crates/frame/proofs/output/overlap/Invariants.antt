-- `frame::output::overlap` meets its contract. The loop's invariant: of both slices the first i places are written, and
-- the others are as they were.
-- Assumes nothing.
use Rattle.std.specs.Prelude.{◌+◌, ◌-◌, ◌≤◌}
use Rattle.rules.specs.F32.{◌⊕◌, at}
use Rattle.rules.proofs.Lists.{Filling}
use Rattle.frame.specs.Frame.{window_buf}
use Rattle.frame.proofs.output.overlap.Given as goal

abbrev pub invariant-loop-i : goal.invariant-loop-i
invariant-loop-i l = (l.i ≤ 480) × Filling (λ k. at (window_buf l.inverse) (480 + k)) l.initial.kept l.i l.kept
    × Filling (λ k. at (window_buf l.inverse) k ⊕ at l.initial.kept k) l.initial.out l.i l.out

abbrev pub decreases-loop-i : goal.decreases-loop-i
decreases-loop-i l = 480 - l.i

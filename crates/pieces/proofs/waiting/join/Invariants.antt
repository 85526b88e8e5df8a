-- `pieces::waiting::join` meets its contract. Assumes nothing.
use Rattle.std.specs.Prelude.{◌≤◌, ◌++◌, ◌≡◌}
use Rattle.rules.proofs.Common.{length, get_or}
use Rattle.rules.specs.F32.{f32}
use Rattle.rules.proofs.Lists.{Filling}
use Rattle.pieces.proofs.waiting.join.Given as goal

abbrev pub invariant-loop-i : goal.invariant-loop-i
invariant-loop-i l = (l.i ≤ l.i-end) × (l.i-end ≡ length l.initial.out)
    × Filling (λ k. get_or (l.front ++ l.rest) k (f32 0)) l.initial.out l.i l.out

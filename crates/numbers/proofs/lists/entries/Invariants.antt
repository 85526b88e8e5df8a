-- `numbers::lists::entries` meets its contract. Assumes nothing.
use Rattle.std.specs.Prelude.{◌≡◌}
use Rattle.rules.proofs.Common.{length}
use Rattle.rules.specs.F32.{at}
use Rattle.rules.proofs.Lists.{Filling}
use Rattle.numbers.specs.Private.{entry_in}
use Rattle.numbers.proofs.lists.entries.Given as goal

abbrev pub invariant-loop-j : goal.invariant-loop-j
invariant-loop-j l = (length l.initial.spare ≡ length l.xs)
    × Filling (λ k. entry_in l.table (at l.xs k)) l.initial.spare l.j l.spare

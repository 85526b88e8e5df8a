-- `feed::out::note` meets its contract: the first j places hold the first j entries. Assumes nothing.
use Rattle.std.specs.Prelude.{◌*◌, ◌≤◌, ◌≡◌}
use Rattle.rules.proofs.Common.{length}
use Rattle.rules.specs.F32.{at}
use Rattle.rules.proofs.Lists.{Filling}
use Rattle.feed.specs.Feed.{frame_entry}
use Rattle.feed.proofs.out.note.Given as goal

abbrev pub invariant-loop-j : goal.invariant-loop-j
invariant-loop-j l =
    (l.j ≤ l.j-end)
    × (l.j-end ≡ length l.initial.entries)
    × (length l.initial.entries ≤ 9)
    × (3 * length l.initial.entries ≤ length l.answers)
    × Filling (λ k. frame_entry l.frame k (at l.answers (3 * k))) l.initial.entries l.j l.entries

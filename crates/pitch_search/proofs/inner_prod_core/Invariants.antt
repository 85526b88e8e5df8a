-- `pitch_search::inner_prod_core` meets its contract. Assumes nothing.
use Rattle.std.specs.Prelude.{◌-◌, ◌/◌, ◌≤◌, ◌≡◌}
use Rattle.rules.specs.Loop.{loop, range}
use Rattle.pitch_search.specs.Inner.{partials, chunk_step, add_product}
use Rattle.pitch_search.proofs.inner_prod_core.Given as goal

abbrev pub invariant-loop-k : goal.invariant-loop-k
invariant-loop-k l = (l.k ≤ l.k-end) × (l.k-end ≡ l.n / 4)
    × (partials l.sum0 l.sum1 l.sum2 l.sum3
    ≡ loop l.k (chunk_step l.xs l.ys) (partials l.initial.sum0 l.initial.sum1 l.initial.sum2 l.initial.sum3))

abbrev pub invariant-loop-j : goal.invariant-loop-j
invariant-loop-j l = (l.initial.j ≤ l.j) × (l.j ≤ l.n)
    × (l.sum ≡ range l.initial.j l.j (add_product l.xs l.ys) l.initial.sum)

abbrev pub decreases-loop-j : goal.decreases-loop-j
decreases-loop-j l = l.n - l.j

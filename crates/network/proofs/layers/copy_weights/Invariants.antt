-- `network::layers::copy_weights` meets its contract. Assumes nothing.
use Rattle.std.specs.Prelude.{◌≤◌, ◌≡◌}
use Rattle.rules.proofs.Common.{length, get_or}
use Rattle.rules.proofs.Lists.{Filling}
use Rattle.matrix.specs.Sums.{of_byte}
use Rattle.network.proofs.layers.copy_weights.Given as goal

abbrev pub invariant-loop-j : goal.invariant-loop-j
invariant-loop-j l = (l.j ≤ l.j-end) × (l.j-end ≡ length l.initial.out)
    × Filling (λ k. of_byte (get_or l.bytes k 0)) l.initial.out l.j l.out

-- `matrix::lanes::blocks` meets its contract. Assumes nothing.
use Rattle.std.specs.Prelude.{◌-◌, ◌%◌, ◌≤◌, ◌++◌, ◌≡◌}
use Rattle.rules.proofs.Common.{length, drop}
use Rattle.rules.specs.Tab.{tab}
use Rattle.matrix.specs.Private.{neuron, spot}
use Rattle.matrix.proofs.lanes.blocks.Given as goal

abbrev pub invariant-loop-a : goal.invariant-loop-a
invariant-loop-a l = (l.a ≤ length l.out) × (l.a % 16 ≡ 0)
    × (l.kept ≡ tab l.a (λ i. neuron l.out l.weights l.stride l.offset l.input (spot i)) ++ drop l.a l.initial.kept)

abbrev pub decreases-loop-a : goal.decreases-loop-a
decreases-loop-a l = length l.out - l.a

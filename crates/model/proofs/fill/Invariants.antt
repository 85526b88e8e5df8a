-- The loop's invariant: the numbers passed are those of their lines, and the rest is as it was. Assumes nothing.
use Rattle.std.specs.Prelude.{◌≤◌, ◌++◌, ◌≡◌}
use Rattle.rules.proofs.Common.{length, drop}
use Rattle.rules.specs.Tab.{tab}
use Rattle.model.specs.Model.{read_of}
use Rattle.model.specs.Summary.{number_in}
use Rattle.model.proofs.fill.Given as goal

abbrev pub invariant-loop-i : goal.invariant-loop-i
invariant-loop-i l = (l.i ≤ 30) × (length l.numbers ≡ 30)
    × (l.numbers ≡ tab l.i (number_in (read_of l.bytes)) ++ drop l.i l.initial.numbers)

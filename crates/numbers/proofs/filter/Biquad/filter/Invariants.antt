-- `Biquad::filter` meets its contract. Assumes nothing.
use Rattle.std.specs.Prelude.{◌≡◌}
use Rattle.rules.proofs.Common.{length}
use Rattle.numbers.specs.Private.{memory_in}
use Rattle.numbers.proofs.Outputs.{Filtering}
use Rattle.numbers.proofs.filter.Biquad.filter.Given as goal

abbrev pub invariant-loop-i : goal.invariant-loop-i
invariant-loop-i l = (length l.output ≡ length l.initial.output)
    × Filtering l.self (memory_in l.initial.kept) l.input l.initial.output l.i (memory_in l.kept) l.output

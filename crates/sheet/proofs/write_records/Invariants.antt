-- The loop's invariant: the first i records stand in front, and the rest is as it was. Assumes nothing.
use Rattle.std.specs.Prelude.{◌*◌, ◌≤◌, ◌≡◌}
use Rattle.rules.proofs.Common.{length}
use Rattle.sides.specs.Sides.{number_of}
use Rattle.sheet.proofs.Laying.{laid}
use Rattle.sheet.proofs.write_records.Given as goal

abbrev pub invariant-loop-i : goal.invariant-loop-i
invariant-loop-i l = (l.i ≤ l.i-end) × (l.i-end ≡ length l.entries) × (length l.out ≡ 8 * length l.entries)
    × (l.out ≡ laid (number_of l.side) l.entries l.i l.initial.out)

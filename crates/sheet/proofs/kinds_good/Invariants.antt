use Rattle.std.specs.Prelude.{◌≤◌, ◌≡◌}
use Rattle.rules.proofs.Common.{length, drop}
use Rattle.sheet.specs.Written.{known_kinds}
use Rattle.sheet.proofs.kinds_good.Given as goal

abbrev pub invariant-loop-entry : goal.invariant-loop-entry
invariant-loop-entry l = (l.entry-index ≤ l.entry-index-end) × (l.entry-index-end ≡ length l.entries)
    × (known_kinds l.entries ≡ known_kinds (drop l.entry-index l.entries))

use Rattle.std.specs.Prelude.{◌*◌, ◌≤◌, ◌≡◌}
use Rattle.rules.proofs.Common.{length, take}
use Rattle.rules.specs.Lists.{sum}
use Rattle.sheet.proofs.total.Given as goal

abbrev pub invariant-loop-byte : goal.invariant-loop-byte
invariant-loop-byte l = (l.byte-index ≤ l.byte-index-end) × (l.byte-index-end ≡ length l.bytes)
    × (l.sum ≤ 255 * l.byte-index)
    × (l.sum ≡ sum (take l.byte-index l.bytes))

use Rattle.std.specs.Prelude.{◌+◌, ◌%◌, ◌≤◌, ◌≡◌}
use Rattle.rules.proofs.Common.{length, take}
use Rattle.rules.specs.Lists.{sum}
use Rattle.recording.proofs.sum_with.Given as goal

abbrev pub invariant-loop-byte : goal.invariant-loop-byte
invariant-loop-byte l = (l.byte-index ≤ length l.bytes)
    × (l.all ≡ (l.before + sum (take l.byte-index l.bytes)) % 4294967296)

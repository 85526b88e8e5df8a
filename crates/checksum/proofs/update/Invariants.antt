-- The loop's invariant: from the register on, the bytes that are left come to what all of them come to.
-- Assumes nothing.
use Rattle.std.specs.Prelude.{◌≤◌, ◌≡◌}
use Rattle.rules.proofs.Common.{length, drop}
use Rattle.checksum.specs.Checksum.{crc}
use Rattle.checksum.proofs.update.Given as goal

abbrev pub invariant-loop-byte : goal.invariant-loop-byte
invariant-loop-byte l = (l.byte-index ≤ l.byte-index-end) × (l.byte-index-end ≡ length l.bytes)
    × (crc l.start l.bytes ≡ crc l.register (drop l.byte-index l.bytes))

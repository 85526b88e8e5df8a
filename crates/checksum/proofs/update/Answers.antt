-- The loop's invariant: from the register on, the bytes that are left come to what all of them come to.
-- Assumes nothing.
use Rattle.rules.proofs.Common.{refl, sym, ◌∙◌}
use native.Mathlib.Omega.{arith}
use Rattle.rules.proofs.Loops.{turns}
use Rattle.checksum.proofs.Parts.{crc_more, crc_ended}
use Rattle.checksum.proofs.update.Goals as goal

pub loop-byte-init : goal.loop-byte-init
loop-byte-init c = (omega arith, refl, refl)

pub wide-requires : goal.wide-requires
wide-requires c = search turns

pub loop-byte-preserved : goal.loop-byte-preserved
loop-byte-preserved c =
    let l = c.loop-byte in (
      omega arith,
      refl,
      l.invariant.2 ∙ crc_more _ l.register l.byte-index (omega arith)
          ∙ rw (c.wide.ensures, c.requires),
    )

pub returns : goal.returns
returns c = let l = c.loop-byte in sym (l.invariant.2 ∙ crc_ended _ _ l.byte-index (omega arith))

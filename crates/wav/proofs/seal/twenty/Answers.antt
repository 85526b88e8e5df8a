use native.Mathlib.Nat.{div-div-eq-div-mul}
use Rattle.sheet.specs.Sheet.{four}
use Rattle.wav.proofs.seal.twenty.Goals as goal

pub returns : goal.returns
unfolding four
returns c =
    rw (
      c.copy_from_slice.ensures.after,
      c.copy_from_slice-2.ensures.after,
      c.copy_from_slice-3.ensures.after,
      c.copy_from_slice-4.ensures.after,
      c.to_le_bytes.ensures,
      c.to_le_bytes-2.ensures,
      c.to_le_bytes-3.ensures,
      c.to_le_bytes-4.ensures,
      div-div-eq-div-mul c.args.long 4294967296 256,
      div-div-eq-div-mul c.args.long 4294967296 65536,
      div-div-eq-div-mul c.args.long 4294967296 16777216,
    )

use Rattle.std.specs.Prelude.{◌*◌, ◌≡◌}
use mathlib.Core.Path.{◌∙◌}
use Rattle.sheet.specs.Sheet.{four}
use Rattle.sheet.proofs.Digits.{four_mod}
use Rattle.wav.specs.Head.{head_of}
use Rattle.wav.proofs.head.head_of.Goals as goal

pub returns : goal.returns
unfolding head_of four
returns c =
    let speed : c.to_le_bytes-3.result ≡ four (2 * c.args.rate) = c.to_le_bytes-3.ensures ∙ four_mod _ in
    rw (
      c.copy_from_slice.ensures.after,
      c.copy_from_slice-2.ensures.after,
      c.copy_from_slice-3.ensures.after,
      c.copy_from_slice-4.ensures.after,
      c.copy_from_slice-5.ensures.after,
      c.copy_from_slice-6.ensures.after,
      c.copy_from_slice-7.ensures.after,
      c.to_le_bytes.ensures,
      c.riff_size.ensures,
      c.to_le_bytes-2.ensures,
      speed,
      c.to_le_bytes-4.ensures,
    )

use native.Mathlib.Omega.{arith}
use Rattle.sheet.specs.Sheet.{four}
use Rattle.wav.specs.Head.{head_of}
use Rattle.wav.specs.Seal.{said, seal_of}
use Rattle.recording.specs.Recording.{front_chunk, head_for}
use Rattle.recording.proofs.head_for.Goals as goal

pub slice_bounds-head-end-3 : goal.slice_bounds-head-end-3
unfolding head_of four
slice_bounds-head-end-3 c =
    rw (
      c.copy_from_slice.ensures.after,
      c.copy_from_slice-2.ensures.after,
      c.split_at.ensures.front,
      c.head_of-plain.ensures,
    ) (omega arith)

pub slice_bounds-head-end-4 : goal.slice_bounds-head-end-4
unfolding head_of seal_of said four
slice_bounds-head-end-4 c =
    rw (
      c.copy_from_slice.ensures.after,
      c.copy_from_slice-2.ensures.after,
      c.copy_from_slice-3.ensures.after,
      c.split_at.ensures.front,
      c.head_of-plain.ensures,
      c.of-seal.ensures,
    ) (omega arith)

pub returns : goal.returns
unfolding head_for front_chunk head_of seal_of said four
returns c =
    rw (
      c.copy_from_slice.ensures.after,
      c.copy_from_slice-2.ensures.after,
      c.copy_from_slice-3.ensures.after,
      c.copy_from_slice-4.ensures.after,
      c.split_at.ensures.front,
      c.split_at.ensures.back,
      c.head_of-plain.ensures,
      c.of-seal.ensures,
      c.contents.ensures,
    )

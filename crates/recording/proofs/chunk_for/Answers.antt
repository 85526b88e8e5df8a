use Rattle.sheet.specs.Sheet.{four}
use Rattle.wav.specs.Seal.{said, seal_of}
use Rattle.recording.specs.Recording.{chunk_for}
use Rattle.recording.proofs.chunk_for.Goals as goal

pub returns : goal.returns
unfolding chunk_for seal_of said four
returns c =
    rw (
      c.copy_from_slice.ensures.after,
      c.copy_from_slice-2.ensures.after,
      c.name_of.ensures,
      c.of-seal.ensures,
    )

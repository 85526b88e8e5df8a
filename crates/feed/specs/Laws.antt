-- What is claimed of a feed by itself. The proofs are in proofs/Ranged.antt and proofs/Own.antt.
use Rattle.std.specs.Prelude.{◌≤◌, ◌<◌, ◌≡◌}
use Rattle.rules.specs.Common.{ℕ, List, [], map, length, get_or, Float}
use Rattle.pcm.specs.Pcm.{width}
use Rattle.pcm.specs.Laws.{interleaved, Recorded, sample_of}
use Rattle.feed.specs.Feed.{Block, samples_of, frame_entry}

-- an entry is one that the side sheet takes
abbrev pub EntrySmall : Type 0
EntrySmall = (frame j : ℕ) (heard : Float) → frame_entry frame j heard < 8589934592

-- a block is the bytes of a recording, and the bench's own channel in it is this list of samples
pub record Carries (b : Block) (own : List (List ℕ)) : Type 0 where
  -- the lists of all its channels, this one among them
  pub channels : List (List (List ℕ))
  pub known : 0 < width b.format
  pub recorded : Recorded (width b.format) (length own) channels
  pub bytes : b.bytes ≡ interleaved (length own) channels
  pub many : b.channels ≡ length channels
  pub few : length channels ≤ 65535
  pub among : b.channel < length channels
  pub mine : own ≡ get_or channels b.channel []

-- then the samples that are taken from the block are those of this list
abbrev pub OwnSamples : Type 0
OwnSamples = (b : Block) (own : List (List ℕ)) → Carries b own → samples_of b ≡ map (sample_of b.format) own

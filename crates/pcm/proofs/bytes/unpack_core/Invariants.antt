-- `pcm::bytes::unpack_core` meets its contract: the first i places hold the first i samples of the channel.
-- Assumes nothing.
use Rattle.std.specs.Prelude.{◌≤◌, ◌≡◌}
use Rattle.rules.proofs.Common.{length}
use Rattle.rules.proofs.Lists.{Filling}
use Rattle.pcm.specs.Pcm.{width, sample_place, number_at, UnpackFits}
use Rattle.pcm.specs.Private.{numbered}
use Rattle.pcm.proofs.bytes.unpack_core.Given as goal

abbrev pub invariant-loop-i : goal.invariant-loop-i
invariant-loop-i l = (l.i ≤ l.i-end) × (l.i-end ≡ length l.initial.out)
    × UnpackFits (length l.initial.out) (length l.bytes) (numbered l.format) l.channels l.channel
    × (l.width ≡ width (numbered l.format))
    × Filling (λ k. number_at (numbered l.format) l.bytes (sample_place (numbered l.format) l.channels l.channel k))
    l.initial.out l.i l.out

-- The samples of a block are those of the bench's own channel (`own_samples`). Assumes nothing.
use Rattle.std.specs.Prelude.{◌*◌, ◌/◌, ◌%◌, ◌<◌, ◌≡◌}
use Rattle.rules.proofs.Common.{ℕ, List, map, refl, sym, ap, ◌∙◌, length}
use native.Mathlib.Nat.{mul-pos, mul-mod_left, mul-div_cancel}
use native.Mathlib.Omega.{arith}
use Rattle.pcm.specs.Pcm.{width, unpacked}
use Rattle.pcm.specs.Laws.{interleaved, sample_of}
use Rattle.pcm.proofs.Channels.{recorded_length, channels_apart}
use Rattle.feed.specs.Feed.{Block, samples_in, block_size}
use Rattle.feed.specs.Laws.{Carries, OwnSamples}
use Rattle.feed.proofs.Blocks.{whole}

module _ (b : Block) (own : List (List ℕ)) (h : Carries b own) where
  abbrev row : ℕ
  row = length h.channels * width b.format

  -- there are as many as the list has
  as_many : block_size b ≡ length own
  as_many =
      let long : length b.bytes ≡ length own * row =
      ap length h.bytes ∙ recorded_length (width b.format) (length own) h.channels h.recorded in
      let some : 0 < row = mul-pos (omega (arith, h.among)) h.known in
      ap (λ (k : ℕ). samples_in (length b.bytes) b.format k b.channel) h.many
      ∙ sym (whole (length b.bytes) b.format (length h.channels) b.channel (width b.format) refl
      h.known h.few h.among
      (ap (λ (k : ℕ). k % row) long ∙ mul-mod_left (length own) row))
      ∙ ap (λ (k : ℕ). k / row) long ∙ mul-div_cancel (length own) some

pub own_samples : OwnSamples
own_samples b own h =
    ap (λ (k : ℕ). unpacked k b.bytes b.format b.channels b.channel) (as_many b own h)
    ∙ ap (λ (s : List ℕ). unpacked (length own) s b.format b.channels b.channel) h.bytes
    ∙ ap (λ (k : ℕ). unpacked (length own) (interleaved (length own) h.channels) b.format k b.channel)
    h.many
    ∙ channels_apart b.format (length own) h.channels h.known h.recorded b.channel h.among
    ∙ ap (map (sample_of b.format)) (sym h.mine)

-- `pcm::bytes::pack_core` meets its contract: the first two places of each sample so far hold its bytes.
-- Assumes nothing.
use Rattle.std.specs.Prelude.{◌*◌, ◌/◌, ◌%◌, ◌≤◌, ◌≡◌}
use Rattle.rules.proofs.Common.{ℕ, List, length}
use Rattle.rules.proofs.Common.{Float}
use Rattle.rules.specs.F32.{at}
use Rattle.rules.proofs.Lists.{Filling}
use Rattle.pcm.specs.Pcm.{nearest16, byte_of}
use Rattle.pcm.proofs.bytes.pack_core.Given as goal

-- byte k of the samples
abbrev pub byte : List Float → ℕ → ℕ
byte samples k = byte_of (nearest16 (at samples (k / 2))) (k % 2)

abbrev pub invariant-loop-i : goal.invariant-loop-i
invariant-loop-i l = (l.i ≤ l.i-end) × (l.i-end ≡ length l.samples) × (length l.initial.out ≡ 2 * length l.samples)
    × Filling (byte l.samples) l.initial.out (2 * l.i) l.out

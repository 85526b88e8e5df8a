-- `pcm::bytes::pack_core` meets its contract: the first two places of each sample so far hold its bytes.
-- Assumes nothing.
use Rattle.std.specs.Prelude.{◌+◌, ◌*◌, ◌/◌, ◌%◌, ◌<◌, ◌≡◌}
use Rattle.rules.proofs.Common.{ℕ, List, subst, ap, ◌∙◌, length, set, get_or}
use Rattle.rules.proofs.Common.{Float}
use Rattle.std.proofs.Common.{arith}
use Rattle.rules.specs.F32.{at}
use Rattle.rules.proofs.Lists.{Filling, fills, filling_more, filling_ended}
use Rattle.pcm.specs.Pcm.{nearest16, byte_of, packed}
use Rattle.pcm.proofs.bytes.pack_core.Invariants.{byte}
use Rattle.pcm.proofs.bytes.pack_core.Goals as goal

-- byte j of sample i
of_sample : (samples : List Float) (i j k : ℕ) → k / 2 ≡ i → k % 2 ≡ j → {n : ℕ} → n ≡ nearest16 (at samples i)
    → byte_of n j ≡ byte samples k
of_sample samples i j k half rest e = rw (half, rest, e)

-- one sample more
sample_more : (samples : List Float) (out₀ : List ℕ) (i : ℕ) {out : List ℕ} {n b c : ℕ}
    → Filling (byte samples) out₀ (2 * i) out
    → n ≡ nearest16 (at samples i) → b ≡ byte_of n 0 → c ≡ byte_of n 1 → length out₀ ≡ 2 * length samples
    → i < length samples
    → Filling (byte samples) out₀ (2 * (i + 1)) (set (set out (2 * i) b) (2 * i + 1) c)
sample_more samples out₀ i {out} {n} {b} {c} f e low high l h =
    subst (λ (k : ℕ). Filling (byte samples) out₀ k (set (set out (2 * i) b) (2 * i + 1) c)) (omega arith)
    (filling_more (byte samples) out₀ (2 * i + 1)
    (filling_more (byte samples) out₀ (2 * i) f (omega arith)
    (low ∙ of_sample samples i 0 (2 * i) (omega arith) (omega arith) e))
    (omega arith) (high ∙ of_sample samples i 1 (2 * i + 1) (omega arith) (omega arith) e))

pub loop-i-init : goal.loop-i-init
loop-i-init c = search (fills, c.requires.size)

pub loop-i-preserved : goal.loop-i-preserved
loop-i-preserved c =
    let l = c.loop-i in
    let samples = c.args.samples.now in
    let n = c.nearest.result in
    let high : n / 256 % 256 ≡ n / 256 = omega (arith, c.nearest.type_inv) in (
      omega arith,
      l.invariant.1,
      l.invariant.2,
      sample_more samples _ _ l.invariant.3 c.nearest.ensures
          (ap (λ (b : List ℕ). get_or b 0 0) c.to_le_bytes.ensures)
          (ap (λ (b : List ℕ). get_or b 1 0) c.to_le_bytes.ensures ∙ high)
          l.invariant.2 (omega arith),
    )

pub returns : goal.returns
unfolding packed
returns c = let l = c.loop-i in filling_ended _ _ _ _ (omega arith) (omega arith) l.invariant.2 l.invariant.3

-- `feed::refusals::samples_in` meets its contract. Assumes nothing.
use native.Mathlib.Nat.{mul-pos}
use native.Mathlib.Omega.{arith}
use Rattle.pcm.proofs.Patterns.{block_small}
use Rattle.feed.proofs.Blocks.{uneven, whole}
use Rattle.feed.proofs.refusals.samples_in.Goals as goal

pub overflow_mul-block : goal.overflow_mul-block
overflow_mul-block c =
    let a = c.args in
    omega (
      arith,
      block_small 0 0 a.format a.channels 0 _ c.width_of-width.ensures (omega arith),
    )

pub nonzero_rem-bytes : goal.nonzero_rem-bytes
nonzero_rem-bytes c = mul-pos (omega arith) (omega arith)

pub returns-then-bytes-block-ne0 : goal.returns-then-bytes-block-ne0
returns-then-bytes-block-ne0 c =
    uneven _ _ _ _ _ c.width_of-width.ensures (omega arith) (omega arith)
    (omega arith) c.if-bytes-block-ne0.true

pub nonzero_div-result : goal.nonzero_div-result
nonzero_div-result c = mul-pos (omega arith) (omega arith)

pub returns : goal.returns
returns c =
    whole _ _ _ _ _ c.width_of-width.ensures (omega arith) (omega arith)
    (omega arith) c.if-bytes-block-ne0.false

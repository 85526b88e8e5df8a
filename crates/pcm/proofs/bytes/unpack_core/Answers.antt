-- `pcm::bytes::unpack_core` meets its contract: the first i places hold the first i samples of the channel.
-- Assumes nothing.
use Rattle.rules.proofs.Common.{refl, ◌∙◌}
use Rattle.std.proofs.Common.{arith}
use Rattle.rules.proofs.Lists.{filling_begin, filling_more, filling_ended}
use Rattle.pcm.specs.Pcm.{unpacked}
use Rattle.pcm.proofs.Patterns.{room}
use Rattle.pcm.proofs.bytes.unpack_core.Goals as goal

pub loop-i-init : goal.loop-i-init
loop-i-init c = (omega arith, refl, c.requires, c.width-width.ensures.0, filling_begin _ _)

pub overflow_mul-i : goal.overflow_mul-i
overflow_mul-i c =
    let l = c.loop-i in
    omega (arith, room _ _ _ _ _ _ l.invariant.2 l.invariant.3 l.i (omega arith))

pub overflow_add-i : goal.overflow_add-i
overflow_add-i c =
    let l = c.loop-i in
    omega (arith, room _ _ _ _ _ _ l.invariant.2 l.invariant.3 l.i (omega arith))

pub overflow_mul-i-in-loop-i : goal.overflow_mul-i-in-loop-i
overflow_mul-i-in-loop-i c =
    let l = c.loop-i in
    omega (arith, room _ _ _ _ _ _ l.invariant.2 l.invariant.3 l.i (omega arith))

pub number_at-requires : goal.number_at-requires
number_at-requires c =
    let l = c.loop-i in
    omega (arith, l.invariant.3, room _ _ _ _ _ _ l.invariant.2 l.invariant.3 l.i (omega arith))

pub loop-i-preserved : goal.loop-i-preserved
loop-i-preserved c =
    let l = c.loop-i in (
      omega arith,
      l.invariant.1,
      l.invariant.2,
      l.invariant.3,
      filling_more _ _ _ l.invariant.4 (omega arith) (c.number_at.ensures ∙ rw l.invariant.3),
    )

pub returns : goal.returns
unfolding unpacked
returns c = let l = c.loop-i in filling_ended _ _ _ _ (omega arith) (omega arith) l.invariant.1 l.invariant.4

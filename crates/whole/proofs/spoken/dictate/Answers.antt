-- `whole::spoken::dictate` meets its contract: after j turns j frames are said, and at the end the rest waits.
-- Assumes nothing.
use Rattle.std.specs.Prelude.{◌+◌, ◌*◌, ◌≤◌}
use Rattle.rules.proofs.Common.{ℕ, List, refl, length, Float}
use native.Mathlib.Omega.{arith}
use Rattle.whole.specs.Private.{Ready}
use Rattle.whole.proofs.Said.{begun, goes_on, come_to_end, ready_on}
use Rattle.whole.proofs.spoken.dictate.Goals as goal

-- the bounds of what it counts
bounds : {w : ℕ} {share piece : List Float} {frames out answers : ℕ} → Ready w share piece frames out answers
    → (480 * frames ≤ w + length piece) × (w + length piece ≤ 4575)
bounds r = (r.enough, omega (arith, r.few, r.short))

pub overflow_add-frames : goal.overflow_add-frames
overflow_add-frames c = omega (arith, bounds c.requires.ready)

pub loop-j-init : goal.loop-j-init
loop-j-init c = (omega arith, refl, refl, refl, refl, refl, c.requires.ready, begun _ _ _ _ _ _ _ c.requires.fit)

pub step-last-requires : goal.step-last-requires
step-last-requires c =
    let i = c.loop-j.invariant in record {
      fit = i.7.fit;
      ready = rw i.5 (ready_on _ _ _ _ _ _ _ i.7 i.6 (omega (arith, i, c.loop-j-test)) i.2
          i.3);
    }

pub overflow_step-j : goal.overflow_step-j
overflow_step-j c =
    let i = c.loop-j.invariant in
    omega (arith, bounds i.6, i.0)

pub loop-j-preserved : goal.loop-j-preserved
loop-j-preserved c =
    let i = c.loop-j.invariant in
    let k = c.step-last.auto in
    let e = rw i.5 at c.step-last.ensures in (
      omega arith,
      omega (arith, k),
      omega (arith, k),
      omega (arith, k),
      i.4,
      i.5,
      i.6,
      goes_on _ _ _ _ _ _ _ _ i.7 (omega arith) i.6.few e.value e.share_after e.out_after e.answers_after,
    )

pub settle-requires : goal.settle-requires
settle-requires c =
    let i = c.loop-j.invariant in (
      i.7.fit.whole,
      omega (arith, i.5, i.6.few),
      i.6.short,
      omega (arith, i.5, bounds i.6),
    )

pub overflow_add-left : goal.overflow_add-left
overflow_add-left c = let i = c.loop-j.invariant in omega (arith, i.5, bounds i.6)

pub overflow_mul-left : goal.overflow_mul-left
overflow_mul-left c = let i = c.loop-j.invariant in omega (arith, i.5, bounds i.6)

pub overflow_sub-left : goal.overflow_sub-left
overflow_sub-left c = let i = c.loop-j.invariant in omega (arith, i.5, bounds i.6)

pub returns : goal.returns
returns c =
    let a = c.args in
    let i = c.loop-j.invariant in
    come_to_end a.rec a.share.now a.piece.now a.model.now _ a.out.now a.answers.now i.4
    c.requires.fit.whole i.6.few i.7
    (omega (arith, i.0)) c.settle.ensures c.holding.ensures

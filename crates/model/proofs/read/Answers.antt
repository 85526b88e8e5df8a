-- The loop's invariant: what is still to be read, with the headers so far, gives what reading the file gives.
-- Assumes nothing.
use Rattle.std.specs.Prelude.{◌≡◌}
use Rattle.rules.proofs.Common.{refl, sym, ◌∙◌, take, length-set}
use native.Mathlib.Numerals.{add-one}
use native.Mathlib.Omega.{arith}
use lib.Seq.{take_all, take-suc-set}
use Rattle.model.proofs.Steps.{within, few, start, on, stopped, ended, few_none, few_set}
use Rattle.model.proofs.read.Goals as goal

pub loop-layer-init : goal.loop-layer-init
loop-layer-init c =
    rw c.start-c.ensures (
      omega arith,
      refl,
      omega arith,
      few_none 6,
      start c.args.bytes.now,
    )

pub returns-in-Err : goal.returns-in-Err
returns-in-Err c =
    let s = c.args.bytes.now in
    let step = rw (c.kinds_in_row-kinds.ensures, c.in-Err.is) at c.layer.ensures in
    sym (c.loop-layer.invariant.4 ∙ stopped s c.loop-layer.layer (take c.loop-layer.layer c.loop-layer.headers)
    c.loop-layer.c.at
    (omega arith) step)

pub loop-layer-preserved : goal.loop-layer-preserved
loop-layer-preserved c =
    let s = c.args.bytes.now in
    let j = c.loop-layer.layer in
    let hs = c.loop-layer.headers in
    let h = c.in-Ok.header in
    let step = rw (c.kinds_in_row-kinds.ensures, c.in-Ok.is) at c.layer.ensures in (
      omega arith,
      simp length-set c.loop-layer.invariant.1,
      within _ _ _ step,
      few_set hs j h (few _ _ _ step) c.loop-layer.invariant.3,
      c.loop-layer.invariant.4 ∙ on s j (take j hs) c.loop-layer.c.at (omega arith) step
          ∙ rw (add-one j, take-suc-set hs j h (omega arith)),
    )

pub matched-requires : goal.matched-requires
matched-requires c =
    let few = c.loop-layer.invariant.3 in
    rw c.model_of.ensures (record { dense = few 0; vad = few 1; noise = few 2 })

pub returns : goal.returns
returns c =
    let s = c.args.bytes.now in
    let hs = c.loop-layer.headers in
    let six : c.loop-layer.layer ≡ 6 = omega arith in
    c.matched.ensures ∙ rw c.model_of.ensures
    (sym (rw (six, take_all 6 hs (omega arith)) at c.loop-layer.invariant.4 ∙ ended s hs c.loop-layer.c.at))

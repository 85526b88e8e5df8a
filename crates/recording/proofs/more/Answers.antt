use Rattle.std.specs.Prelude.{◌-◌}
use Rattle.rules.proofs.Common.{sym, ◌∙◌, length, drop, length-drop}
use borrow.Author.Tests.{eqb-false}
use lib.Seq.{take_all}
use native.Mathlib.Omega.{arith}
use Rattle.recording.proofs.Running.{run_next}
use Rattle.recording.proofs.more.Goals as goal

pub loop-rest-preserved : goal.loop-rest-preserved
loop-rest-preserved c =
    let l = c.loop-rest in
    let others = c.split_at.result.1.now in
    let some = eqb-false _ 0 (sym c.is_empty.ensures ∙ c.loop-rest-test.true) in
    l.invariant ∙ run_next _ _ c.audio_in.result (omega (arith, some))
    ∙ rw (
      ← c.split_at.ensures.front,
      ← c.split_at.ensures.back,
      take_all (length others - 1) (drop 1 others) (simp length-drop (omega arith)),
      ← c.on.ensures,
      ← c.step-now.ensures,
    )

-- The loop's invariant: the run is the records passed and the run behind them. Assumes nothing.
use Rattle.rules.proofs.Common.{sym, ◌∙◌}
use native.Mathlib.Omega.{arith}
use Rattle.sheet.proofs.Runs.{run_begin, run_more, run_stops, run_ended}
use Rattle.sheet.proofs.run_of.Goals as goal

pub loop-i-init : goal.loop-i-init
loop-i-init c = (omega arith, run_begin _ _ _)

pub returns-then-not-is_good : goal.returns-then-not-is_good
returns-then-not-is_good c =
    let l = c.loop-i in
    sym (l.invariant.1 ∙ run_stops _ _ _ l.i (omega arith)
    (sym c.is_good.ensures ∙ c.if-not-is_good.true))

pub loop-i-preserved : goal.loop-i-preserved
loop-i-preserved c =
    let l = c.loop-i in (
      omega arith,
      l.invariant.1 ∙ run_more _ _ _ l.i (omega arith) (sym c.is_good.ensures ∙ c.if-not-is_good.false),
    )

pub returns : goal.returns
returns c = let l = c.loop-i in sym (l.invariant.1 ∙ run_ended _ _ _ l.i (omega arith) (omega arith))

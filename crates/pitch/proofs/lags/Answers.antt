-- `pitch::lags` meets its contract. Assumes nothing.
use Rattle.std.specs.Prelude.{◌+◌}
use Rattle.rules.proofs.Common.{refl, ap, ◌∙◌}
use native.Mathlib.Omega.{arith}
use Rattle.rules.specs.Loop.{stop}
use Rattle.rules.proofs.Loops.{turns, walk_more, walk_ended, walk_stop}
use Rattle.pitch.specs.Lpc.{Lpc, state}
use Rattle.pitch.proofs.lags.Goals as goal

pub loop-i-init : goal.loop-i-init
loop-i-init c = search turns

-- the turn that leaves the loop
pub returns-then-error-ac : goal.returns-then-error-ac
returns-then-error-ac c =
    let l = c.loop-i in
    let called = c.lag-error in
    let last = stop (state called.new.lpc called.result) in
    ap (λ (s : Lpc). s.lpc)
    (walk_stop _ _ (l.i + 1) _ (omega arith)
    (walk_more _ _ _ {next = last} l.invariant.3 (rw (← called.ensures, c.if-error-ac.true))))

pub loop-i-preserved : goal.loop-i-preserved
loop-i-preserved c =
    let l = c.loop-i in
    let called = c.lag-error in (
      omega arith,
      refl,
      called.auto.lpc ∙ l.invariant.2,
      walk_more _ _ _ l.invariant.3 (rw (← called.ensures, c.if-error-ac.false)),
    )

pub returns : goal.returns
returns c =
    ap (λ (s : Lpc). s.lpc)
    (walk_ended _ _ _ _ (omega arith) (omega arith) c.loop-i.invariant.3)

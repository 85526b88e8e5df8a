-- `pitch_search::find_best_pitch_core` meets its contract. Assumes nothing.
use native.Mathlib.Omega.{arith}
use Rattle.rules.proofs.Loops.{turns, more, ended}
use Rattle.pitch_search.specs.Best.{best}
use Rattle.pitch_search.proofs.find_best_pitch_core.Goals as goal

pub loop-i-init : goal.loop-i-init
unfolding best
loop-i-init c = search turns

pub loop-i-preserved : goal.loop-i-preserved
unfolding best
loop-i-preserved c = more _ _ _ c.loop-i.invariant (cc)

pub returns : goal.returns
unfolding best
returns c =
    rw (← c.norm.ensures)
    (ended _ _ _ _ (omega arith) (omega arith) c.loop-i.invariant)

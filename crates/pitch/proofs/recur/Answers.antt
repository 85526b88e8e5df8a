-- `pitch::recur` meets its contract. Assumes nothing.
use Rattle.rules.proofs.Loops.{turns}
use Rattle.pitch.proofs.recur.Goals as goal

pub loop-j-init : goal.loop-j-init
loop-j-init c = search turns

pub loop-j-preserved : goal.loop-j-preserved
loop-j-preserved c = search turns

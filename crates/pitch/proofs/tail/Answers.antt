-- `pitch::tail` meets its contract. Assumes nothing.
use Rattle.rules.proofs.Loops.{turns}
use Rattle.pitch.specs.Autocorr.{tail_of}
use Rattle.pitch.proofs.tail.Goals as goal

pub loop-i-init : goal.loop-i-init
unfolding tail_of
loop-i-init c = search turns

pub loop-i-preserved : goal.loop-i-preserved
unfolding tail_of
loop-i-preserved c = search turns

pub returns : goal.returns
unfolding tail_of
returns c = search turns

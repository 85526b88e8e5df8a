-- `pitch::corr1` meets its contract. Assumes nothing.
use Rattle.rules.proofs.Loops.{turns}
use Rattle.pitch.specs.Xcorr.{corr}
use Rattle.pitch.proofs.corr1.Goals as goal

pub loop-j-init : goal.loop-j-init
unfolding corr
loop-j-init c = search turns

pub loop-j-preserved : goal.loop-j-preserved
unfolding corr
loop-j-preserved c = search turns

pub returns : goal.returns
unfolding corr
returns c = search turns

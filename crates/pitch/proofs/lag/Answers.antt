-- `pitch::lag` meets its contract. Assumes nothing.
use Rattle.pitch.specs.Lpc.{lag_next}
use Rattle.pitch.proofs.lag.Goals as goal

pub returns : goal.returns
unfolding lag_next
returns c = rw (c.update.ensures, c.recur.ensures)

-- `bands::add_bins` meets its contract. The loop's invariant: the two sums held in locals, put in their places, are
-- what the turns so far give.
-- Assumes nothing.
use Rattle.std.specs.Prelude.{◌≡◌}
use Rattle.rules.specs.Loop.{range}
use Rattle.bands.specs.Bands.{corr_step}
use Rattle.bands.proofs.Shares.{held}
use Rattle.bands.proofs.add_bins.Given as goal

abbrev pub invariant-loop-j : goal.invariant-loop-j
invariant-loop-j l = held l.out l.i l.low l.high ≡ range l.first l.j (corr_step l.x l.p l.i) l.out

-- `pitch::lanes::corr_lags` meets its contract. Assumes nothing.
use Rattle.std.specs.Prelude.{◌≡◌}
use Rattle.pitch.specs.Private.{lag_sums}
use Rattle.pitch.proofs.lanes.corr_lags.Given as goal

abbrev pub invariant-loop-j : goal.invariant-loop-j
invariant-loop-j g l = l.sums ≡ lag_sums l.xs l.ys l.j l.i g.row.N

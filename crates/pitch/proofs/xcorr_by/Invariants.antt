-- `pitch::xcorr_by` meets its contract. Assumes nothing.
use Rattle.std.specs.Prelude.{◌-◌, ◌%◌, ◌≤◌, ◌≡◌}
use Rattle.rules.proofs.Lists.{Filling}
use Rattle.pitch.specs.Xcorr.{lag_of}
use Rattle.pitch.proofs.xcorr_by.Given as goal

abbrev pub invariant-loop-i : goal.invariant-loop-i
invariant-loop-i g l = record {
  in_range : l.i ≤ l.n;
  fours : l.i % 4 ≡ 0;
  steps : (l.n - l.i) % g.row.N ≡ l.n % g.row.N;
  filled : Filling (lag_of l.xs l.ys l.n) l.initial.xcorr l.i l.xcorr;
}

abbrev pub decreases-loop-i : goal.decreases-loop-i
decreases-loop-i g l = l.n - l.i

-- `pitch::xcorr_rest` meets its contract. Assumes nothing.
use Rattle.std.specs.Prelude.{◌-◌, ◌≤◌, ◌++◌, ◌≡◌}
use Rattle.rules.proofs.Common.{length, drop}
use Rattle.rules.specs.Tab.{tab}
use Rattle.pitch.specs.Xcorr.{lag_of}
use Rattle.pitch.proofs.xcorr_rest.Given as goal

abbrev pub invariant-loop-i : goal.invariant-loop-i
invariant-loop-i l = (l.initial.i ≤ l.i) × (l.i ≤ l.n) × (length l.xcorr ≡ length l.initial.xcorr)
    × (l.xcorr ≡ tab l.i (lag_of l.xs l.ys l.n) ++ drop l.i l.initial.xcorr)

abbrev pub decreases-loop-i : goal.decreases-loop-i
decreases-loop-i l = l.n - l.i

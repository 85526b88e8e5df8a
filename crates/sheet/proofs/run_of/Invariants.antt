-- The loop's invariant: the run is the records passed and the run behind them. Assumes nothing.
use Rattle.std.specs.Prelude.{◌-◌, ◌≤◌, ◌≡◌}
use Rattle.sheet.specs.End.{run}
use Rattle.sheet.proofs.Runs.{on_from}
use Rattle.sheet.proofs.run_of.Given as goal

abbrev pub invariant-loop-i : goal.invariant-loop-i
invariant-loop-i l = (l.i ≤ l.records) × (run l.side l.records l.bytes ≡ on_from l.side l.records l.bytes l.i)

abbrev pub decreases-loop-i : goal.decreases-loop-i
decreases-loop-i l = l.records - l.i

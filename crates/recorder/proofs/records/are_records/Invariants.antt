use Rattle.std.specs.Prelude.{◌-◌, ◌≤◌, ◌≡◌}
use Rattle.recorder.specs.Recorder.{are_records}
use Rattle.recorder.proofs.InRow.{on_from}
use Rattle.recorder.proofs.records.are_records.Given as goal

abbrev pub invariant-loop-i : goal.invariant-loop-i
invariant-loop-i l = (l.i ≤ l.frames) × (are_records l.side l.number l.frames l.records ≡ on_from l.side l.number
    l.frames l.records l.i)

abbrev pub decreases-loop-i : goal.decreases-loop-i
decreases-loop-i l = l.frames - l.i

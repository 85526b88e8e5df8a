-- `pitch::recur` meets its contract. Assumes nothing.
use Rattle.std.specs.Prelude.{◌-◌, ◌≤◌, ◌≡◌}
use Rattle.rules.specs.Loop.{loop}
use Rattle.pitch.specs.Lpc.{recurrence_step}
use Rattle.pitch.proofs.recur.Given as goal

abbrev pub invariant-loop-j : goal.invariant-loop-j
invariant-loop-j l = (l.j ≤ l.i) × (l.rr ≡ loop l.j (recurrence_step l.lpc l.ac l.i) l.initial.rr)

abbrev pub decreases-loop-j : goal.decreases-loop-j
decreases-loop-j l = l.i - l.j

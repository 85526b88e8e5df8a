-- `pitch::update` meets its contract. Assumes nothing.
use Rattle.std.specs.Prelude.{◌+◌, ◌/◌, ◌≤◌, ◌≡◌}
use Rattle.rules.proofs.Common.{length}
use Rattle.rules.specs.Loop.{loop}
use Rattle.pitch.specs.Lpc.{mirror_step}
use Rattle.pitch.proofs.update.Given as goal

abbrev pub invariant-loop-j : goal.invariant-loop-j
invariant-loop-j l = (l.j ≤ l.j-end) × (l.j-end ≡ (l.i + 1) / 2) × (length l.lpc ≡ length l.initial.lpc)
    × (l.lpc ≡ loop l.j (mirror_step l.r l.i) l.initial.lpc)

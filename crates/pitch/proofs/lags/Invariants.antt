-- `pitch::lags` meets its contract. Assumes nothing.
use Rattle.std.specs.Prelude.{◌≤◌, ◌≡◌}
use Rattle.rules.proofs.Common.{length}
use Rattle.rules.specs.Loop.{walk, go}
use Rattle.pitch.specs.Lpc.{state, lpc_step}
use Rattle.pitch.proofs.lags.Given as goal

abbrev pub invariant-loop-i : goal.invariant-loop-i
invariant-loop-i l = (l.i ≤ l.i-end) × (l.i-end ≡ length l.initial.lpc) × (length l.lpc ≡ length l.initial.lpc)
    × (go (state l.lpc l.error) ≡ walk l.i (lpc_step l.ac) (state l.initial.lpc l.initial.error))

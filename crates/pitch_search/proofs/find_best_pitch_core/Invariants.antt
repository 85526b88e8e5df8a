-- `pitch_search::find_best_pitch_core` meets its contract. Assumes nothing.
use Rattle.std.specs.Prelude.{◌≡◌}
use Rattle.rules.specs.Loop.{loop}
use Rattle.pitch_search.specs.Best.{pitch_step}
use Rattle.pitch_search.proofs.find_best_pitch_core.Given as goal

abbrev pub invariant-loop-i : goal.invariant-loop-i
invariant-loop-i l = l.s ≡ loop l.i (pitch_step l.xcorr l.ys l.len) l.initial.s

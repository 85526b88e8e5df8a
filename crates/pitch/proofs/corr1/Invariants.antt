-- `pitch::corr1` meets its contract. Assumes nothing.
use Rattle.std.specs.Prelude.{◌≡◌}
use Rattle.rules.specs.Loop.{loop}
use Rattle.pitch.specs.Xcorr.{term_step}
use Rattle.pitch.proofs.corr1.Given as goal

abbrev pub invariant-loop-j : goal.invariant-loop-j
invariant-loop-j l = l.sum ≡ loop l.j (term_step l.xs l.ys l.i) l.initial.sum

-- `pitch::fir5_core` meets its contract. Assumes nothing.
use Rattle.std.specs.Prelude.{◌≡◌}
use Rattle.rules.specs.Loop.{loop}
use Rattle.pitch.specs.Fir.{fir, fir_start, fir_step}
use Rattle.pitch.proofs.fir5_core.Given as goal

abbrev pub invariant-loop-place : goal.invariant-loop-place
invariant-loop-place l = fir l.xs l.mem0 l.mem1 l.mem2 l.mem3 l.mem4
    ≡ loop l.place-index (fir_step l.num) (fir_start l.initial.xs)

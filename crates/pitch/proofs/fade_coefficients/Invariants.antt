-- `pitch::fade_coefficients` meets its contract. Assumes nothing.
use Rattle.std.specs.Prelude.{◌+◌, ◌≡◌}
use Rattle.rules.specs.F32.{at, ◌⊗◌}
use Rattle.rules.proofs.Lists.{Filling}
use Rattle.pitch.specs.Downsample.{fade}
use Rattle.pitch.proofs.fade_coefficients.Given as goal

abbrev pub invariant-loop-c : goal.invariant-loop-c
invariant-loop-c l = (l.tmp ≡ fade l.c-index)
    × Filling (λ i. at l.initial.lpc i ⊗ fade (i + 1)) l.initial.lpc l.c-index l.lpc

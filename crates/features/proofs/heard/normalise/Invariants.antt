-- `features::heard::normalise` meets its contract. Assumes nothing.
use Rattle.rules.proofs.Common.{binary32}
use Rattle.rules.specs.F32.{◌⊕◌, ◌⊗◌, ◌⊘◌, at, f32}
use Rattle.rules.proofs.Lists.{Filling}
use Rattle.numbers.specs.Root.{root}
use Rattle.features.proofs.heard.normalise.Given as goal

abbrev pub invariant-loop-i : goal.invariant-loop-i
invariant-loop-i l = Filling (λ k. at l.initial.exp k ⊘ root binary32
    (f32 0x3A83126F ⊕ at l.ex k ⊗ at l.ep k)) l.initial.exp l.i l.exp

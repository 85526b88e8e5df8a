-- `features::pitch::add_pitch` meets its contract. Assumes nothing.
use Rattle.rules.specs.F32.{◌⊕◌, ◌⊗◌, at}
use Rattle.rules.specs.Spectrum.{bin_of}
use Rattle.rules.proofs.Lists.{Filling}
use Rattle.features.proofs.pitch.add_pitch.Given as goal

abbrev pub invariant-loop-n : goal.invariant-loop-n
invariant-loop-n l = Filling (λ k. at l.initial.x k ⊕ at l.p k ⊗ at l.rf (bin_of k)) l.initial.x l.n l.x

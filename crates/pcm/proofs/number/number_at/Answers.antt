-- `pcm::number::number_at` meets its contract: each format's answer is the definition's. Assumes nothing.
use Rattle.rules.proofs.Common.{ap, ◌∙◌, Float, binary32}
use lib.Ieee.{of_bits}
use Rattle.rules.specs.F32.{◌⊗◌, ◌⊘◌, f32}
use Rattle.pcm.specs.Pcm.{signed, as_sample, number_at}
use Rattle.pcm.proofs.Patterns.{scaled}
use Rattle.pcm.proofs.number.number_at.Goals as goal

pub returns-in-Int16 : goal.returns-in-Int16
unfolding number_at
returns-in-Int16 c = rw c.in-Int16.is (c.signed.ensures ∙ ap (signed 32768) c.two.ensures.0)

pub returns-in-Int24 : goal.returns-in-Int24
unfolding number_at
returns-in-Int24 c =
    rw c.in-Int24.is
    (c.clipped.ensures
    ∙ ap (λ (x : Float). as_sample (x ⊘ f32 0x43800000))
    (c.signed-in-Int24.ensures ∙ ap (signed 8388608) c.three.ensures.0))

pub returns-in-Float32 : goal.returns-in-Float32
unfolding number_at
returns-in-Float32 c =
    rw c.in-Float32.is
    (ap (λ (y : Float). f32 0x47000000 ⊗ y) c.clipped-in-Float32.ensures
    ∙ ap scaled (c.float_of.ensures ∙ ap (of_bits binary32) c.four.ensures))

pub returns-in-Int32 : goal.returns-in-Int32
unfolding number_at
returns-in-Int32 c = rw c.in-Int32.is (c.clipped-in-Int32.ensures ∙ ap as_sample c.halves.ensures)

-- `network::six::noise_of` meets its contract. Assumes nothing.
use Rattle.std.specs.Prelude.{◌-◌}
use Rattle.rules.proofs.Common.{List, refl, ap, ◌∙◌, Float}
use native.Mathlib.Omega.{arith}
use Rattle.rules.specs.F32.{part}
use Rattle.rules.specs.Place.{get, put}
use Rattle.network.specs.Compute.{gru_at}
use Rattle.network.specs.Private.{state_at}
use Rattle.network.proofs.Parts.{cut_length, cut}
use Rattle.network.proofs.Pieces.{as_inputs}
use Rattle.network.proofs.six.noise_of.Goals as goal

pub returns : goal.returns
returns c =
    let a = c.args in
    let s = a.states.now in
    let h = a.m.noise_gru in
    let n = a.m.vad_gru.neurons in
    let fit = c.requires.1 in
    let long = cut_length s 0 n n (omega arith) (omega (arith, c.requires.0, fit.within.inputs, fit.inputs)) in
    c.gru.ensures
    ∙ ap (λ (i : List Float). put (state_at 128 h) s (gru_at a.bytes.now h i (get (state_at 128 h) s)))
    (as_inputs a.hidden.now (part 0 n s) a.features.now c.join.new.buf (h.inputs - 0) refl
    (cut s 0 n (state_at 0 a.m.vad_gru) refl (omega arith))
    (omega (arith, long, fit.inputs)) c.join.ensures)

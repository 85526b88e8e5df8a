-- `network::six::frame_in` meets its contract. Assumes nothing.
use mathlib.Core.Path.{◌∙◌}
use Rattle.network.proofs.Fitting.{few, voice_fits, noise_fits, gains_fit}
use Rattle.network.proofs.States.{six_joined}
use Rattle.network.proofs.six.frame_in.Goals as goal

pub voice_of-requires : goal.voice_of-requires
voice_of-requires c =
    let p = c.requires in
    (p.4, voice_fits _ _ p.0 p.1 p.3 p.5)

pub noise_of-requires : goal.noise_of-requires
noise_of-requires c =
    let p = c.requires in (
      c.voice_of.auto.states ∙ p.4,
      noise_fits _ _ p.0 (c.voice_of.auto.hidden ∙ p.1) p.5,
    )

pub gains_of-requires : goal.gains_of-requires
gains_of-requires c =
    let p = c.requires in (
      c.noise_of.auto.states ∙ c.voice_of.auto.states ∙ p.4,
      gains_fit _ _ p.0 p.2 p.5,
    )

pub returns : goal.returns
returns c =
    let few = few _ _ c.requires.0 in
    six_joined c.args.bytes.now c.args.m c.args.states.now c.args.features.now
    c.requires.4 (few.1, few.2, few.3)
    c.voice_of.ensures.0 c.voice_of.ensures.1 c.voice_of.ensures.2 c.noise_of.ensures
    c.gains_of.ensures.0 c.gains_of.ensures.1

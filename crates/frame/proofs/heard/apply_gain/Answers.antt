-- `frame::heard::apply_gain` meets its contract: what each call leaves, in a row. Assumes nothing.
use Rattle.rules.proofs.Common.{List, ap, ◌∙◌, length-take, length-drop, Float}
use native.Mathlib.Omega.{arith}
use Rattle.rules.specs.Place.{get, put}
use Rattle.rules.proofs.Refusals.{left as fitted}
use Rattle.bands.specs.Bands.{band_gain}
use Rattle.features.specs.Pitch.{applied}
use Rattle.frame.specs.Share.{lastg}
use Rattle.frame.proofs.heard.apply_gain.Goals as goal

pub returns : goal.returns
unfolding get put
returns c =
    let x = c.args in
    let held = fitted c.hold_gains.ensures
    (record { gains = omega arith; remembered = simp (length-take, length-drop) (omega arith) }) in record {
      share_after = ap (λ (b : List Float × List Float). put lastg x.share.now b.1) held;
      out_after = c.apply.ensures ∙ ap (λ (b : List Float × List Float). applied x.out.now (band_gain b.0)) held;
    }

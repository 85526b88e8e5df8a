-- `lag::first_pitch` meets its contract. Assumes nothing.
use native.Mathlib.Omega.{arith}
use Rattle.rules.proofs.Common.{length-take, length-drop}
use Rattle.rules.proofs.Refusals.{fitting, left as fitted}
use Rattle.lag.proofs.Joined.{picked}
use Rattle.lag.proofs.first_pitch.Goals as goal

pub returns : goal.returns
returns c =
    let xcorr = fitted c.pitch_xcorr.ensures
    (record {
      enough = λ h. simp (length-take, length-drop) (omega arith);
      rounded = λ h. simp (length-take, length-drop) (omega arith);
    }) in
    let best = fitting c.find_best_pitch.ensures (record { enough = omega arith }) in
    picked c.args.low.now c.unwrap-pitches.ensures xcorr best

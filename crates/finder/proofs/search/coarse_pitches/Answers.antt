-- `finder::search::coarse_pitches` meets its contract. Assumes nothing.
use native.Mathlib.Omega.{arith}
use Rattle.rules.proofs.Refusals.{fitting, left}
use Rattle.finder.proofs.Joined.{coarse_of}
use Rattle.finder.proofs.search.coarse_pitches.Goals as goal

pub returns : goal.returns
returns c =
    let xcorr = left c.pitch_xcorr.ensures (record { enough = λ h. omega arith; rounded = λ h. omega arith }) in
    let best = fitting c.find_best_pitch.ensures (record { enough = omega arith }) in
    coarse_of c.args.buf.now (omega arith) c.unwrap-2.ensures c.every_second.ensures c.every_second-2.ensures xcorr best

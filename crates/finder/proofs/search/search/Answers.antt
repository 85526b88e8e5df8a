-- `finder::search::search` meets its contract. Assumes nothing.
use Rattle.rules.proofs.Common.{sym, ◌∙◌}
use native.Mathlib.Omega.{arith}
use Rattle.rules.proofs.Refusals.{fitting}
use Rattle.finder.proofs.Joined.{near_of, best_below, search_of}
use Rattle.finder.proofs.search.search.Goals as goal

pub correlations-requires : goal.correlations-requires
correlations-requires c = near_of _ c.coarse_pitches.ensures

pub interpolate-requires : goal.interpolate-requires
interpolate-requires c =
    let best = fitting c.find_best_pitch.ensures (record { enough = omega arith }) in
    best_below c.args.buf.now _ _ c.correlations.ensures (sym c.unwrap-fine_pitches.ensures ∙ best)

pub returns : goal.returns
returns c =
    let best = fitting c.find_best_pitch.ensures (record { enough = omega arith }) in
    search_of c.args.buf.now c.coarse_pitches.ensures c.correlations.ensures
    (sym c.unwrap-fine_pitches.ensures ∙ best) c.interpolate.ensures

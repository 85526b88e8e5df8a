-- What our lag may be: 182 to 768, and 768 where no correlation is positive. Assumes nothing.
use Rattle.std.specs.Prelude.{◌<◌, ◌≡◌}
use Rattle.rules.proofs.Common.{List, length, Float}
use native.Mathlib.Omega.{arith}
use Rattle.rules.proofs.Lists.{length_tab}
use Rattle.pitch.specs.Xcorr.{pitch_xcorr}
use Rattle.pitch.specs.Downsample.{downsampled}
use Rattle.pitch_search.proofs.Firsts.{first_below, first_none}
use Rattle.lag.specs.Lag.{correlations, first_pitch, own_lag}
use Rattle.lag.specs.Laws.{InRange, LagIsEven, OfNone}

pub length_correlations : (low : List Float) → length (correlations low) ≡ 294
unfolding correlations pitch_xcorr
length_correlations low = length_tab 294 _

pub pitch_small : (low : List Float) → first_pitch low < 294
pitch_small low =
    rw length_correlations at (first_below (correlations low) low 480 (rw length_correlations (omega arith)))

pub in_range_lem : InRange
unfolding own_lag
in_range_lem mem = (omega (arith, pitch_small (downsampled mem)), omega arith)

pub is_even : LagIsEven
unfolding own_lag
is_even mem = omega (arith, pitch_small (downsampled mem))

pub none_positive : OfNone
unfolding own_lag
none_positive mem none =
    let low = downsampled mem in
    let first : first_pitch low ≡ 0 =
    first_none (correlations low) low 480 (λ i h. none i (rw length_correlations at h)) in
    rw first

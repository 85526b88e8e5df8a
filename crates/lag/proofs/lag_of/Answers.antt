-- `lag::lag_of` meets its contract: the first pitch is below 294. Assumes nothing.
use Rattle.std.specs.Prelude.{Ok}
use Rattle.rules.proofs.Common.{ℕ, ap}
use native.Mathlib.Omega.{arith}
use Rattle.rules.specs.Leaf.{done}
use Rattle.pitch.proofs.Passed.{passed}
use Rattle.lag.proofs.Joined.{small_of, lagged}
use Rattle.lag.proofs.lag_of.Goals as goal

pub overflow_mul-result : goal.overflow_mul-result
overflow_mul-result c = omega (arith, small_of _ c.first_pitch.ensures)

pub overflow_sub-result : goal.overflow_sub-result
overflow_sub-result c = omega (arith, small_of _ c.first_pitch.ensures)

pub returns : goal.returns
returns c =
    let low = passed c.pitch_downsample.ensures c.in_ok-pitch_downsample.was in
    done low.0.whole (ap (λ (l : ℕ). Ok l) (lagged _ _ c.first_pitch.ensures low.1))

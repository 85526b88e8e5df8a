-- What is claimed of the lag that a bench finds by itself, whatever numbers it is given. The proofs are in
-- proofs/Ranges.
use Rattle.std.specs.Prelude.{◌%◌, ◌≤◌, ◌<◌, ◌≡◌}
use Rattle.rules.specs.Common.{ℕ, false, List, Float, lt}
use Rattle.rules.specs.F32.{at, f32}
use Rattle.pitch.specs.Downsample.{downsampled}
use Rattle.lag.specs.Lag.{correlations, own_lag}

-- The lag is from 182 to 768 (request 04), so call 2 never refuses it.
abbrev pub InRange : Type 0
InRange = (mem : List Float) → (182 ≤ own_lag mem) × (own_lag mem ≤ 768)

-- The lag is an even number of samples, because the search goes over every second one.
abbrev pub LagIsEven : Type 0
LagIsEven = (mem : List Float) → own_lag mem % 2 ≡ 0

-- If no correlation is positive, the lag is 768.
abbrev pub OfNone : Type 0
OfNone =
    (mem : List Float)
    → ((i : ℕ) → i < 294 → lt (f32 0) (at (correlations (downsampled mem)) i) ≡ false) → own_lag mem ≡ 768

-- The lag that a bench finds by itself (request 04), over the definitions of `pitch` and `pitch_search`. The rule is
-- our own: it is simpler than `PitchFinder::process` of nnnoiseless, which is in the crate `finder`.
use Rattle.std.specs.Prelude.{◌-◌, ◌*◌, Result, Ok, Err}
use Rattle.rules.specs.Common.{ℕ, List, Float}
use Rattle.rules.specs.F32.{part}
use Rattle.pitch.specs.Xcorr.{pitch_xcorr}
use Rattle.pitch_search.specs.Best.{best_of, first_of}
use Rattle.pitch.specs.Downsample.{downsampled}

-- How well the newest 480 of the 864 half-rate numbers agree with older ones: one correlation for each of 294 offsets.
unfoldable pub correlations : List Float → List Float
correlations low = pitch_xcorr (part 384 864 low) low 294

-- The best offset, which `find_best_pitch` reports first.
abbrev pub first_pitch : List Float → ℕ
first_pitch low = first_of (best_of (correlations low) low 480)

-- The lag in samples at the full rate. An offset is counted from the oldest number, and each offset is two samples.
unfoldable pub own_lag : List Float → ℕ
own_lag mem = 768 - 2 * first_pitch (downsampled mem)

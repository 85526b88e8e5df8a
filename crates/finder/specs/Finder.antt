-- `PitchFinder::process` of pitch.rs, with `last_period` and `last_gain` as two numbers that go in. They come out as
-- the period and the gain.
use Rattle.std.specs.Prelude.{◌-◌, Result, Ok, Err}
use Rattle.rules.specs.Common.{ℕ, List, Float}
use Rattle.rules.specs.F32.{f32}
use Rattle.pitch.specs.Downsample.{downsampled}
use Rattle.finder.specs.Doubling.{remove_doubling}
use Rattle.finder.specs.Kept.{whole_lag}
use Rattle.finder.specs.Search.{pitch_search}
use Rattle.finder.specs.declared.Pitch.{Pitch}

unfoldable pub process : ℕ → Float → List Float → Pitch
process lastPeriod lastGain input = let buf = downsampled input in
    remove_doubling buf (768 - pitch_search buf) lastPeriod lastGain

-- with a last period that may be any number
abbrev pub find : Float → Float → List Float → Pitch
find lastPeriod lastGain input = process (whole_lag lastPeriod) lastGain input

-- The finder: what is claimed. The proofs are in proofs/Ranges.antt and proofs/Lags.antt.
use Rattle.std.specs.Prelude.{◌≤◌, ◌≡◌}
use Rattle.rules.specs.Common.{ℕ, List, pos, Float, binary32, of_int}
use Rattle.finder.specs.Finder.{find}
use Rattle.finder.specs.Kept.{whole_lag}

-- whatever it is given and remembers, the period is 60 to 767: a lag that call 2 takes
abbrev pub PeriodInRange : Type 0
PeriodInRange = (lastPeriod lastGain : Float) (input : List Float) → let p = find lastPeriod lastGain input in
    (60 ≤ p.period) × (p.period ≤ 767)

-- a kept lag is at most 768, and a whole number up to there is read back as itself
abbrev pub LagIsSmall : Type 0
LagIsSmall = (x : Float) → whole_lag x ≤ 768

abbrev pub LagIsBack : Type 0
LagIsBack = (lag : ℕ) → lag ≤ 768 → whole_lag (of_int binary32 (pos lag)) ≡ lag

-- What is claimed of the two lags of `find_best_pitch`. The proofs are in proofs/Firsts.
use Rattle.std.specs.Prelude.{◌<◌, ◌≡◌}
use Rattle.rules.specs.Common.{ℕ, false, List, length, Float, lt}
use Rattle.rules.specs.F32.{at, f32}
use Rattle.pitch_search.specs.Best.{best_of, first_of, second_of}

-- The best lag is one of those tried.
abbrev pub FirstIsTried : Type 0
FirstIsTried = (xcorr ys : List Float) (len : ℕ) → 0 < length xcorr → first_of (best_of xcorr ys len) < length xcorr

-- So is the second best, if at least two were tried.
abbrev pub SecondIsTried : Type 0
SecondIsTried = (xcorr ys : List Float) (len : ℕ) → 1 < length xcorr → second_of (best_of xcorr ys len) < length xcorr

-- The best lag is 0 if no correlation is positive.
abbrev pub FirstOfNone : Type 0
FirstOfNone =
    (xcorr ys : List Float) (len : ℕ)
    → ((i : ℕ) → i < length xcorr → lt (f32 0) (at xcorr i) ≡ false) → first_of (best_of xcorr ys len) ≡ 0

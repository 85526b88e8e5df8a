-- The leaves of `pitch`, joined: what each call ensures, in a row. Assumes nothing.
use Rattle.std.specs.Prelude.{◌-◌, ◌*◌, ◌<◌, ◌≡◌, Result, Ok}
use Rattle.rules.proofs.Common.{ℕ, List, sym, ap, ◌∙◌, take, drop, Float}
use Rattle.pitch.specs.Xcorr.{pitch_xcorr}
use Rattle.pitch_search.specs.Best.{best_of, first_of}
use Rattle.pitch.specs.Downsample.{downsampled}
use Rattle.rules.specs.declared.refusal.Refusal.{Refusal}
use Rattle.pitch_search.specs.declared.Pitches.{Pitches}
use Rattle.lag.specs.Lag.{correlations, first_pitch, own_lag}
use Rattle.lag.proofs.Ranges.{pitch_small}

pub small_of : (low : List Float) {p : ℕ} → p ≡ first_pitch low → p < 294
small_of low e = rw e (pitch_small low)

pub lagged : (mem low : List Float) {p : ℕ} → p ≡ first_pitch low → low ≡ downsampled mem → 768 - 2 * p ≡ own_lag mem
unfolding own_lag
lagged mem low e same = rw (e, same)

pub picked : (low : List Float) {xcorr : List Float} {found : Result Pitches Refusal} {pitches : Pitches}
    → found ≡ Ok pitches → xcorr ≡ pitch_xcorr (take 480 (drop 384 low)) low 294 → found ≡ best_of xcorr low 480
    → pitches.first ≡ first_pitch low
unfolding correlations
picked low e same best = ap first_of (sym e ∙ best ∙ ap (λ (x : List Float). best_of x low 480) same)

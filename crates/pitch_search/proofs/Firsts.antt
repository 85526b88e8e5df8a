-- The pitches of `find_best_pitch`: both are lags that were tried, and the first is 0 where no correlation is positive.
-- Assumes nothing.
use Rattle.std.specs.Prelude.{◌<◌, ◌≡◌}
use Rattle.rules.proofs.Common.{ℕ, Bool, true, false, List, refl, ap, ◌∙◌, length, Float, lt, neg}
use native.Mathlib.Omega.{arith}
use Rattle.rules.specs.F32.{◌⊗◌, at, f32, one}
use Rattle.rules.proofs.Loops.{kept}
use Rattle.pitch_search.specs.declared.Search.{Search}
use Rattle.pitch_search.specs.Best.{searched, start_norm, considered, slid, pitch_step, best, best_of}
use Rattle.pitch_search.specs.Best.{first_of, second_of}
use Rattle.pitch_search.specs.Laws.{FirstIsTried, SecondIsTried, FirstOfNone}

-- below n, and the second where there are two
abbrev Below : ℕ → Search → Type 0
Below n b = (b.best_pitch < n) × (1 < n → b.second_best_pitch < n)

-- by the three tests of `considered`
tested : (n : ℕ) (corr : Float) (i : ℕ) (b : Search) → i < n → Below n b → (x y z : Bool) → lt (f32 0) corr ≡ x
    → lt (b.second_best_num ⊗ b.y_sq_norm) (corr ⊗ corr ⊗ b.second_best_den) ≡ y
    → lt (b.best_num ⊗ b.y_sq_norm) (corr ⊗ corr ⊗ b.best_den) ≡ z → Below n (considered corr i b)
unfolding considered
tested n corr i b h p false y z e f g = rw e p
tested n corr i b h p true false z e f g = rw (e, f) p
tested n corr i b h p true true true e f g = rw (e, f, g) (h, λ two. p.0)
tested n corr i b h p true true false e f g = rw (e, f, g) (p.0, λ two. h)

passed : (corr : Float) (i : ℕ) (b : Search) → lt (f32 0) corr ≡ false → considered corr i b ≡ b
unfolding considered
passed corr i b e = rw e

both_below : (xcorr ys : List Float) (len : ℕ) → 0 < length xcorr → let n = length xcorr in
    (first_of (best_of xcorr ys len) < n) × (1 < n → second_of (best_of xcorr ys len) < n)
unfolding best slid
both_below xcorr ys len h =
    kept (pitch_step xcorr ys len) (Below (length xcorr)) (length xcorr)
    (searched (neg one) (neg one) (f32 0) (f32 0) 0 1 (start_norm ys len))
    (λ i b room p. tested (length xcorr) (at xcorr i) i b room p _ _ _ refl refl refl) (h, λ two. two)

pub first_below : FirstIsTried
first_below xcorr ys len h = (both_below xcorr ys len h).0

pub second_below : SecondIsTried
second_below xcorr ys len h = (both_below xcorr ys len (omega arith)).1 h

pub first_none : FirstOfNone
unfolding best slid
first_none xcorr ys len none =
    kept (pitch_step xcorr ys len) (λ b. b.best_pitch ≡ 0) (length xcorr)
    (searched (neg one) (neg one) (f32 0) (f32 0) 0 1 (start_norm ys len))
    (λ i b room p. ap (λ (s : Search). s.best_pitch) (passed (at xcorr i) i b (none i room)) ∙ p) refl

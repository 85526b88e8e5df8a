-- How many numbers each definition gives. Assumes nothing.
use Rattle.std.specs.Prelude.{◌≤◌, ◌≡◌}
use Rattle.rules.proofs.Common.{ℕ, List, refl, ◌∙◌, length, length-set, length-drop, length-append, Float}
use native.Mathlib.Omega.{arith}
use Rattle.rules.proofs.Places.{length_put}
use Rattle.rules.proofs.Lists.{length_tab}
use Rattle.bands.proofs.Results.{length_dct}
use Rattle.features.specs.Cepstra.{row, follow_logs, cepstrum, deltas}
use Rattle.features.specs.Features.{normalised, normalised_corr, pitch_features, with_cepstrum, laid, features_of}
use Rattle.features.specs.Gains.{gained}
use Rattle.features.specs.Pitch.{applied, restored, pitch_filtered}

pub length_gained : (g last : List Float) → length (gained g last) ≡ 22
unfolding gained
length_gained g last = length_tab 22 _

pub length_applied : (x gains : List Float) → length (applied x gains) ≡ 961
unfolding applied
length_applied x gains = length_tab 961 _

pub length_filtered : (x p gains exp ex ep : List Float) → length (pitch_filtered x p gains exp ex ep) ≡ 961
unfolding pitch_filtered restored
length_filtered x p gains exp ex ep = simp length_applied

pub length_normalised : (x p ex ep : List Float) → length (normalised_corr x p ex ep) ≡ 22
unfolding normalised_corr normalised
length_normalised x p ex ep = length_tab 22 _

pub length_pitch : (exp : List Float) (lag : Float) → length (pitch_features exp lag) ≡ 7
unfolding pitch_features
length_pitch exp lag = refl

pub length_cepstrum : (logs : List Float) → length (cepstrum logs) ≡ 22
unfolding cepstrum
length_cepstrum logs = simp length-set (length_dct (follow_logs logs))

pub length_deltas : (of : Float → Float → Float → Float) (mem : List Float) (c0 c1 c2 : ℕ)
    → length (deltas of mem c0 c1 c2) ≡ 6
unfolding deltas
length_deltas of mem c0 c1 c2 = length_tab 6 _

pub length_with_cepstrum : (logs mem : List Float) (index : ℕ) → length mem ≡ 176 → index ≤ 7
    → length (with_cepstrum logs mem index) ≡ 176
unfolding with_cepstrum
length_with_cepstrum logs mem index rows inside =
    length_put (row index) mem _ (omega arith) (simp (length-append, length-drop, length_deltas, length_cepstrum))
    ∙ rows

pub length_features : (exp : List Float) (lag : Float) (logs mem : List Float) (index : ℕ)
    → length (features_of exp lag logs mem index) ≡ 42
unfolding features_of laid
length_features exp lag logs mem index =
    simp (length-append, length-drop, length_deltas, length_pitch, length_cepstrum)

-- A heard frame, step by step, from `compute_frame_features` of features.rs and `process_frame` of
-- denoise.rs. Each step takes the share as the step before left it.
use Rattle.rules.specs.Common.{ℕ, List, Float}
use Rattle.rules.specs.F32.{◌⊗◌, at}
use Rattle.rules.specs.Place.{get, put}
use Rattle.rules.specs.Tab.{tab}
use Rattle.bands.specs.Bands.{band_corr, band_gain}
use Rattle.bands.specs.Norm.{wnorm}
use Rattle.model.specs.declared.Model.{Model}
use Rattle.network.specs.Compute.{layers_in_place}
use Rattle.features.specs.Gains.{gained}
use Rattle.features.specs.Pitch.{pitch_filtered, applied}
use Rattle.features.specs.Features.{normalised_corr, features_of, with_cepstrum}
use Rattle.frame.specs.Share.{kept_x, kept_ex, kept_lag, lastg, cepstral_mem, vad_state, noise_state, denoise_state}

-- Rust, `transform_input`: *x *= norm
unfoldable pub scaled : List Float → List Float
scaled spectrum = tab 961 (λ i. at spectrum i ⊗ wnorm)

-- Rust, `transform_input`: crate::compute_band_corr(ex, x, x)
unfoldable pub energies : List Float → List Float
energies spectrum = band_corr (scaled spectrum) (scaled spectrum)

-- What `compute_frame_features` gives, from the band correlations on. p and ep are the spectrum and the band
-- energies of the lagged window.
pub record Featured : Type 0 where
  pub share : List Float
  pub features : List Float
  pub exp : List Float

unfoldable pub featured : List Float → ℕ → List Float → List Float → List Float → Featured
featured share index p ep logs =
    let exp = normalised_corr (get kept_x share) p (get kept_ex share) ep in
    let mem = get cepstral_mem share in
    record {
      share = put cepstral_mem share (with_cepstrum logs mem index);
      features = features_of exp (at (get kept_lag share) 0) logs mem index;
      exp = exp;
    }

-- Rust, `process_frame`: self.rnn.compute(&mut g[..], &mut vad_prob[..], self.feat.features())
pub record Rnn : Type 0 where
  pub share : List Float
  pub gains : List Float
  pub voice : Float

unfoldable pub rnn_of : List Float → List Float → List ℕ → Model → Rnn
rnn_of share features bytes m =
    let f = layers_in_place bytes m (get vad_state share) (get noise_state share) (get denoise_state share) features in
    record {
      share = put denoise_state (put noise_state (put vad_state share f.vad) f.noise) f.denoise;
      gains = f.gains;
      voice = at f.voice 0;
    }

-- Rust, `process_frame`: g[i] = g[i].max(0.6 * self.lastg[i]); self.lastg[i] = g[i]
abbrev pub held_gains : List Float → List Float → List Float
held_gains share gains = gained gains (get lastg share)

-- What a heard frame gives: the share, the voice, and the spectrum to be transformed back. `pitch_filter`
-- uses the network's gains as they are before the maximum.
pub record Spoken : Type 0 where
  pub share : List Float
  pub voice : Float
  pub spectrum : List Float

unfoldable pub spoken_from : List Float → ℕ → List Float → List Float → List Float → List ℕ → Model → Spoken
spoken_from share index p ep logs bytes m =
    let f = featured share index p ep logs in
    let n = rnn_of f.share f.features bytes m in
    let x = pitch_filtered (get kept_x share) p n.gains f.exp (get kept_ex share) ep in
    let g = held_gains n.share n.gains in
    record { share = put lastg n.share g; voice = n.voice; spectrum = applied x (band_gain g) }

-- The same from the second spectrum, which gives p and ep.
abbrev pub spoken : List Float → ℕ → List Float → List Float → List ℕ → Model → Spoken
spoken share index spectrum logs bytes m = spoken_from share index (scaled spectrum) (energies spectrum) logs bytes m

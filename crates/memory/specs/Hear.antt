-- What a bench remembers of the voice, and what a heard frame makes of it (request 13). This is
-- `compute_frame_features` of features.rs and `process_frame` of denoise.rs, as far as they remember.
use Rattle.std.specs.Prelude.{◌+◌, ◌∷◌}
use Rattle.rules.specs.Common.{ℕ, zero, suc, cond, List, [], ltb, Float}
use Rattle.rules.specs.F32.{zeros}
use Rattle.network.specs.Compute.{computed}
use Rattle.features.specs.Features.{features_of, with_cepstrum}
use Rattle.features.specs.Gains.{six_tenths, gained}

-- What a bench remembers.
pub record Recalled : Type 0 where
  -- The gains last applied, one for each band.
  pub gains : List Float
  -- The last eight cepstra, 22 numbers each.
  pub cepstra : List Float
  -- The row where the next cepstrum goes.
  pub index : ℕ
  -- The state of the GRU that finds the voice.
  pub vad : List Float
  -- The state of the GRU that follows the noise.
  pub noise : List Float
  -- The state of the GRU that finds the gains.
  pub denoise : List Float

-- What an opening leaves: zeros.
abbrev pub blank : Recalled
blank =
    record { gains = zeros 22; cepstra = zeros 176; index = 0; vad = zeros 128; noise = zeros 128; denoise = zeros 128 }

-- What a heard frame brings.
pub record HeardFrame : Type 0 where
  -- The logarithms of the band energies.
  pub logs : List Float
  -- The normalised band correlations.
  pub correlations : List Float
  -- The lag.
  pub lag : Float
  -- The bytes of the model.
  pub model : List ℕ

-- The row after this one; after the last comes the first.
abbrev pub next_place : ℕ → ℕ
next_place index = cond (ltb index 7) (index + 1) 0

-- What is remembered after a heard frame: its features go through the six layers of the network. Each gain is at least
-- 0.6 times the one before, and is remembered like that.
unfoldable pub hear : Recalled → HeardFrame → Recalled
hear m f =
    let features = features_of f.correlations f.lag f.logs m.cepstra m.index in
    let rnn = (computed (zeros 22) (zeros 1) m.vad m.noise m.denoise f.model features).layers in
    record {
      gains = gained rnn.gains m.gains;
      cepstra = with_cepstrum f.logs m.cepstra m.index;
      index = next_place m.index;
      vad = rnn.vad;
      noise = rnn.noise;
      denoise = rnn.denoise;
    }

-- What is remembered after several heard frames.
unfoldable pub heard_all : Recalled → List HeardFrame → Recalled
heard_all m [] = m
heard_all m (f ∷ fs) = heard_all (hear m f) fs

-- A gain multiplied k times by 0.6, rounded each time.
unfoldable pub faded : ℕ → Float → Float
faded zero gain = gain
faded (suc k) gain = faded k (six_tenths gain)

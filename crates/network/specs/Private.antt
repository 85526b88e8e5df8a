-- For the contracts of private functions.
use Rattle.std.specs.Prelude.{◌+◌, ◌*◌, ◌≤◌, ◌≡◌}
use Rattle.rules.specs.Common.{ℕ, List, set, Float}
use Rattle.rules.specs.F32.{one, at, ◌⊕◌, ◌⊖◌, ◌⊗◌}
use Rattle.rules.specs.Place.{Place}
use Rattle.model.specs.Laws.{LiesIn}
use Rattle.model.specs.declared.Kind.{Kind}
use Rattle.model.specs.declared.Kind.TheVariants.{Dense, Gru}
use Rattle.model.specs.declared.Header.{Header}
use Rattle.model.specs.declared.Model.{Model}

-- *r = s * *r.
abbrev pub times_step : List Float → ℕ → List Float → List Float
times_step state j r = set r j (at state j ⊗ at r j)

-- *s = z * *s + (1.0 - z) * new.
abbrev pub mix_step : List Float → List Float → ℕ → List Float → List Float
mix_step z new j state = set state j (at z j ⊗ at state j ⊕ (one ⊖ at z j) ⊗ at new j)

-- The lengths for the sums of one gate.
pub record GateFits (out weights recurrent bias offset input state : ℕ) : Type 0 where
  pub inside : offset + out ≤ 3 * out
  pub weighted : weights ≡ 3 * out * input
  pub recurs : recurrent ≡ 3 * out * state
  pub biased : bias ≡ 3 * out

-- The lent places for the gates are as long as the state.
pub record ScratchFits (state z r h : ℕ) : Type 0 where
  pub update : z ≡ state
  pub reset : r ≡ state
  pub new : h ≡ state

-- A layer with this header: its arrays are within this number of bytes, and output and input have its lengths.
pub record LayerFits (kind : Kind) (h : Header) (bytes output input : ℕ) : Type 0 where
  pub within : LiesIn bytes kind h
  pub neurons : output ≡ h.neurons
  pub inputs : input ≡ h.inputs

-- The place of a layer's state among the states, which start at 0, 128 and 256.
abbrev pub state_at : ℕ → Header → Place
state_at at h = record { at = at; size = h.neurons }

-- The three layers that find the voice fit.
pub record VoiceFits (m : Model) (bytes hidden voice features : ℕ) : Type 0 where
  pub front : LayerFits Dense m.input_dense bytes hidden features
  pub state : LayerFits Gru m.vad_gru bytes m.vad_gru.neurons hidden
  pub answer : LayerFits Dense m.vad_output bytes voice m.vad_gru.neurons

-- The two layers that find the gains fit.
pub record DenoiseFits (m : Model) (bytes gains features : ℕ) : Type 0 where
  pub state : LayerFits Gru m.denoise_gru bytes m.denoise_gru.neurons
      (m.vad_gru.neurons + m.noise_gru.neurons + features)
  pub answer : LayerFits Dense m.denoise_output bytes gains m.denoise_gru.neurons

-- The lengths of the lent buffers.
pub record Lengths (gains voice vad noise denoise features : ℕ) : Type 0 where
  pub gained : gains ≡ 22
  pub voiced : voice ≡ 1
  pub first : vad ≡ 128
  pub second : noise ≡ 128
  pub third : denoise ≡ 128
  pub featured : features ≡ 42

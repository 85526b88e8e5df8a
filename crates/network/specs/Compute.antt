-- `RnnState::compute` of rnn.rs: the six layers for one frame, on the bytes of a model.
use Rattle.std.specs.Prelude.{◌∷◌, ◌++◌}
use Rattle.rules.specs.Common.{ℕ, List, [], length, take, drop, Float}
use Rattle.rules.specs.Place.{get}
use Rattle.rules.specs.Refusals.{◌when◌, refusing, wrong}
use Rattle.model.specs.Array.{place_of}
use Rattle.model.specs.Model.{read_of}
use Rattle.model.specs.declared.Kind.{Kind}
use Rattle.model.specs.declared.Kind.TheVariants.{Dense, Gru}
use Rattle.model.specs.declared.Header.{Header}
use Rattle.model.specs.declared.Model.{Model}
use Rattle.model.specs.Reading.{Reading}
use Rattle.model.specs.Reading as read
use Rattle.network.specs.Layers.{dense_of, gru_of}
use Rattle.network.specs.Computed.{Computed, Done, Refused, Misread}

-- An array of a layer, as a part of the model's bytes: 0 is the input weights, 1 the recurrent weights, 2 the biases.
abbrev pub array : List ℕ → Kind → Header → ℕ → List ℕ
array bytes kind h which = get (place_of kind h which) bytes

-- Rust: layer.compute(output, input), for a dense layer.
unfoldable pub dense_at : List ℕ → Header → List Float → List Float
dense_at bytes h input = dense_of (array bytes Dense h 0) (array bytes Dense h 2) h.activation input

-- Rust: layer.compute(state, input), for a GRU layer.
unfoldable pub gru_at : List ℕ → Header → List Float → List Float → List Float
gru_at bytes h input state =
    gru_of (array bytes Gru h 0) (array bytes Gru h 1) (array bytes Gru h 2) h.activation input state

-- What the layers leave.
pub record Layered : Type 0 where
  -- The gain of each of the 22 bands.
  pub gains : List Float
  -- The probability of a voice, as a list of one number.
  pub voice : List Float
  -- The state of vad_gru.
  pub vad : List Float
  -- The state of noise_gru.
  pub noise : List Float
  -- The state of denoise_gru.
  pub denoise : List Float

-- The same from its five parts.
abbrev pub layered_of : List Float → List Float → List Float → List Float → List Float → Layered
layered_of gains voice vad noise denoise =
    record { gains = gains; voice = voice; vad = vad; noise = noise; denoise = denoise }

-- The six layers, on states with one place for each neuron.
unfoldable pub six_layers : List ℕ → Model → List Float → List Float → List Float → List Float → Layered
six_layers bytes m vad noise denoise features =
    let hidden = dense_at bytes m.input_dense features in
    let vad' = gru_at bytes m.vad_gru hidden vad in
    let noise' = gru_at bytes m.noise_gru (hidden ++ vad' ++ features) noise in
    let denoise' = gru_at bytes m.denoise_gru (vad' ++ noise' ++ features) denoise in
    layered_of (dense_at bytes m.denoise_output denoise') (dense_at bytes m.vad_output vad') vad' noise' denoise'

-- The six layers, on states of 128 places: a layer uses the first places, one for each neuron, and the others keep
-- their values.
unfoldable pub layers_in_place : List ℕ → Model → List Float → List Float → List Float → List Float → Layered
layers_in_place bytes m vad noise denoise features =
    let a = m.vad_gru.neurons in
    let b = m.noise_gru.neurons in
    let c = m.denoise_gru.neurons in
    let f = six_layers bytes m (take a vad) (take b noise) (take c denoise) features in
    layered_of f.gains f.voice (f.vad ++ drop a vad) (f.noise ++ drop b noise) (f.denoise ++ drop c denoise)

-- The three states are next to each other in a slice of 384 numbers. This is the first.
unfoldable pub vad_in : List Float → List Float
vad_in states = take 128 states

-- The second.
unfoldable pub noise_in : List Float → List Float
noise_in states = take 128 (drop 128 states)

-- The third.
unfoldable pub denoise_in : List Float → List Float
denoise_in states = drop 256 states

-- What the layers leave, with the states in one slice.
abbrev pub layered_on : List Float → List Float → List Float → Layered
layered_on gains voice states = layered_of gains voice (vad_in states) (noise_in states) (denoise_in states)

-- ---- the call

-- What a call returns, and what it leaves in the buffers that it was lent.
pub record Outcome : Type 0 where
  -- What it returns.
  pub answer : Computed
  -- What it leaves in the lent buffers.
  pub layers : Layered

-- The same from its six parts.
abbrev pub outcome_of : Computed → List Float → List Float → List Float → List Float → List Float → Outcome
outcome_of answer gains voice vad noise denoise =
    record { answer = answer; layers = layered_of gains voice vad noise denoise }

-- The same with the states in one slice.
abbrev pub outcome_on : Computed → List Float → List Float → List Float → Outcome
outcome_on answer gains voice states = record { answer = answer; layers = layered_on gains voice states }

-- Continue with the model if it reads, and otherwise with the number and layer of its refusal.
abbrev pub by_reading : Reading → (Model → Outcome) → (ℕ → ℕ → Outcome) → Outcome
by_reading (read.Good m) good bad = good m
by_reading (read.Refused number layer) good bad = bad number layer

-- The call. A wrong length is refused with 5; then a model that does not read is reported by its number and layer. A
-- refusal changes nothing.
unfoldable pub computed : List Float → List Float → List Float → List Float → List Float → List ℕ → List Float → Outcome
computed gains voice vad noise denoise model features =
    let refused : Computed → Outcome = λ answer. outcome_of answer gains voice vad noise denoise in
    let lengths : List (ℕ × ℕ)
    = (length gains, 22) ∷ (length voice, 1) ∷ (length vad, 128)
    ∷ (length noise, 128) ∷ (length denoise, 128) ∷ (length features, 42) ∷ [] in
    refusing (5 when wrong lengths ∷ []) (λ n. refused (Refused n))
    (by_reading (read_of model)
    (λ m. record { answer = Done; layers = layers_in_place model m vad noise denoise features })
    (λ number layer. refused (Misread number layer)))

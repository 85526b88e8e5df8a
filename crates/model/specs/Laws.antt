-- What is claimed of the writer and the reader, each the inverse of the other (proofs/Written), and of what reads
-- (proofs/Shapes, proofs/Bounds, proofs/Arrays).
use Rattle.std.specs.Prelude.{◌+◌, ◌≤◌, ◌<◌, ◌∷◌, ◌++◌, ◌≡◌}
use Rattle.rules.specs.Common.{ℕ, List, [], length, get_or, take, drop}
use Rattle.rules.specs.Leaf.{◌leaving◌}
use Rattle.rules.specs.Place.{get}
use Rattle.rules.specs.Refusals.{refusing}
use Rattle.model.specs.declared.Activation.TheVariants.{Tanh}
use Rattle.model.specs.declared.Header.{Header}
use Rattle.model.specs.declared.Kind.{Kind}
use Rattle.model.specs.declared.Kind.TheVariants.{Dense, Gru}
use Rattle.model.specs.declared.Model.{Model}
use Rattle.model.specs.Reading.{Good, Refused}
use Rattle.model.specs.Array.{found_in, array_in}
use Rattle.model.specs.Layer.{size_of, activation_number, Layer, bytes_of, layer_of, faults_of, step_number}
use Rattle.model.specs.Layer.{step_values}
use Rattle.model.specs.Layer.{step_at}
use Rattle.model.specs.Model.{kinds, read_layers, headers_at, model_of, read_of}
use Rattle.model.specs.Writer.{layers_given, file_of, write_model}

-- The layers that a file reads as.
abbrev pub layers_read : List ℕ → List Layer
layers_read s = (read_layers kinds s).0

-- The numbers of these layers, as a caller of the writer gives them.
abbrev pub shapes_of : List Layer → List ℕ
shapes_of [] = []
shapes_of (l ∷ ls) = l.inputs ∷ l.neurons ∷ activation_number l.activation ∷ shapes_of ls

-- The arrays of these layers, as a caller of the writer gives them.
abbrev pub arrays_in : List Layer → List (List ℕ)
arrays_in [] = []
arrays_in (l ∷ ls) = l.arrays ++ arrays_in ls

-- What is written reads back as the same layers.
abbrev pub ReadsBack : Type 0
ReadsBack =
    (shapes : List ℕ) (arrays : List (List ℕ)) (out after : List ℕ) → (0 leaving after) ≡ write_model shapes arrays out
    → let ls = layers_given kinds shapes arrays in
    let file = take (length (file_of ls)) after in
    (read_of file ≡ Good (model_of (headers_at 0 ls))) × (layers_read file ≡ ls)

-- What reads is written back byte for byte.
abbrev pub WritesBack : Type 0
WritesBack =
    (s out : List ℕ) (m : Model) → Good m ≡ read_of s → length s ≤ length out
    → let ls = layers_read s in (0 leaving s ++ drop (length s) out) ≡ write_model (shapes_of ls) (arrays_in ls) out

-- Two models that differ in a count, an activation, a weight or a bias never have the same file.
abbrev pub NoneShared : Type 0
NoneShared =
    (shapes shapes' : List ℕ) (arrays arrays' : List (List ℕ)) (out out' after after' : List ℕ) → length arrays ≡ 18
    → length arrays' ≡ 18
    → (0 leaving after) ≡ write_model shapes arrays out → (0 leaving after') ≡ write_model shapes' arrays' out'
    → file_of (layers_given kinds shapes arrays) ≡ file_of (layers_given kinds shapes' arrays')
    → (shapes ≡ shapes') × (arrays ≡ arrays')

-- ---- what reads

-- In the words of document 01: a step returns the number of the layer's first refusal, or 0. A layer that is read comes
-- with its counts, its activation, the start of its arrays and the start of the next layer.
abbrev pub StepInPaper : Type 0
StepInPaper =
    (k : Kind) (s : List ℕ) (at : ℕ)
    → let l = layer_of k (drop at s) in
    let rows = faults_of k (drop at s) in
    (step_number (step_at k s at) ≡ refusing rows (λ n. n) 0)
    × (step_values (step_at k s at)
    ≡ refusing rows (λ n. [])
    (l.inputs ∷ l.neurons ∷ activation_number l.activation ∷ (at + 3) ∷ (at + length (bytes_of l)) ∷ []))

-- Layer j of some layers; after the last, a layer without arrays.
abbrev pub layer_in : List Layer → ℕ → Layer
layer_in ls j = get_or ls j (record { inputs = 0; neurons = 0; activation = Tanh; arrays = [] })

-- An array that is handed out of a file is the array of the layer that the file reads as. So what is written back is
-- what was handed out.
abbrev pub ArraysAreRead : Type 0
ArraysAreRead =
    (s : List ℕ) (m : Model) → Good m ≡ read_of s → (j : ℕ) → j < 6 → (which : ℕ)
    → get (array_in (found_in (read_of s) j) which) s ≡ get_or (layer_in (layers_read s) j).arrays which []

-- A layer whose header and arrays are within this number of bytes.
pub record LiesIn (size : ℕ) (k : Kind) (h : Header) : Type 0 where
  -- A byte holds the number of inputs.
  pub inputs : h.inputs < 128
  -- A byte holds the number of neurons.
  pub neurons : h.neurons < 128
  -- There is at least one neuron.
  pub some : 1 ≤ h.neurons
  -- The three bytes of the header come before the arrays.
  pub start : 3 ≤ h.start
  -- The arrays end within the file.
  pub reach : h.start + size_of k h.inputs h.neurons ≤ size

-- A model that a file of this size can have: each layer is within the file, and their counts go together.
pub record Shaped (size : ℕ) (m : Model) : Type 0 where
  pub layer0 : LiesIn size Dense m.input_dense
  pub layer1 : LiesIn size Gru m.vad_gru
  pub layer2 : LiesIn size Gru m.noise_gru
  pub layer3 : LiesIn size Gru m.denoise_gru
  pub layer4 : LiesIn size Dense m.denoise_output
  pub layer5 : LiesIn size Dense m.vad_output
  -- The features are 42.
  pub features : m.input_dense.inputs ≡ 42
  -- The gains are 22.
  pub gains : m.denoise_output.neurons ≡ 22
  -- The probability of a voice is one number.
  pub voice : m.vad_output.neurons ≡ 1
  -- vad_gru reads what input_dense gives.
  pub vad_reads : m.input_dense.neurons ≡ m.vad_gru.inputs
  -- vad_output reads what vad_gru gives.
  pub voice_reads : m.vad_gru.neurons ≡ m.vad_output.inputs
  -- noise_gru reads the features and what input_dense and vad_gru give.
  pub noise_reads : 42 + m.input_dense.neurons + m.vad_gru.neurons ≡ m.noise_gru.inputs
  -- denoise_gru reads the features and what vad_gru and noise_gru give.
  pub denoise_reads : 42 + m.vad_gru.neurons + m.noise_gru.neurons ≡ m.denoise_gru.inputs
  -- denoise_output reads what denoise_gru gives.
  pub gains_read : m.denoise_gru.neurons ≡ m.denoise_output.inputs

-- Every file that reads has such a model.
abbrev pub WellShaped : Type 0
WellShaped = (s : List ℕ) (m : Model) → Good m ≡ read_of s → Shaped (length s) m

-- No file that reads is longer than this.
abbrev pub Largest : Type 0
Largest = (s : List ℕ) (m : Model) → Good m ≡ read_of s → length s ≤ 157285

-- A refusal has one of the numbers 11 to 22, and its layer is 0 to 6.
abbrev pub RefusedIn : Type 0
RefusedIn = (s : List ℕ) (n j : ℕ) → Refused n j ≡ read_of s → (11 ≤ n) × (n ≤ 22) × (j ≤ 6)

-- One layer of a model file (rnn.rs, `read_dense` and `read_gru` in `from_bytes_impl`): as data, as bytes, and what
-- reading it gives.
use Rattle.std.specs.Prelude.{Result, MatchResult, ◌+◌, ◌*◌, ◌≤◌, ◌<◌, ◌∷◌, ◌++◌, ◌≡◌}
use Rattle.rules.specs.Common.{ℕ, zero, suc, List, [], eqb, ltb, length, get_or, take, drop}
use Rattle.rules.specs.Lists.{sum}
use Rattle.rules.specs.declared.refusal.Refusal.{Refusal}
use Rattle.rules.specs.declared.refusal.Refusal.TheVariants.{ModelActivation}
use Rattle.rules.specs.Refusals.{Row, ◌when◌, refusing}
use Rattle.model.specs.declared.Activation.{Activation}
use Rattle.model.specs.declared.Activation.TheVariants.{Tanh, Sigmoid, Relu}
use Rattle.model.specs.declared.Kind.{Kind}
use Rattle.model.specs.declared.Kind.TheVariants.{Dense, Gru}
use Rattle.model.specs.declared.Header.{Header}
use Rattle.model.specs.Step.{Step}
use Rattle.model.specs.Step as step

-- The lengths of a layer's arrays: input weights, recurrent weights, biases.
abbrev pub lengths : Kind → ℕ → ℕ → List ℕ
lengths Dense i n = i * n ∷ 0 ∷ n ∷ []
lengths Gru i n = 3 * i * n ∷ 3 * n * n ∷ 3 * n ∷ []

-- The length of all arrays of a layer.
abbrev pub size_of : Kind → ℕ → ℕ → ℕ
size_of k i n = sum (lengths k i n)

-- The activation with this number (Rust: `act`).
abbrev pub activation_of : ℕ → Activation
activation_of zero = Tanh
activation_of (suc zero) = Sigmoid
activation_of (suc (suc n)) = Relu

-- The number of an activation.
abbrev pub activation_number : Activation → ℕ
activation_number Tanh = 0
activation_number Sigmoid = 1
activation_number Relu = 2

-- The result is the activation with this number, or refusal 14 if there is none.
abbrev pub Numbered : ℕ → Result Activation Refusal → Type 0
Numbered n r = MatchResult r (λ a. (n ≤ 2) × (a ≡ activation_of n)) (λ e. (2 < n) × (e ≡ ModelActivation))

-- A layer as data.
pub record Layer : Type 0 where
  -- How many inputs it has.
  pub inputs : ℕ
  -- How many neurons it has.
  pub neurons : ℕ
  -- Its activation.
  pub activation : Activation
  -- Its three arrays: input weights, recurrent weights, biases.
  pub arrays : List (List ℕ)

-- Arrays one after the other.
abbrev pub joined : List (List ℕ) → List ℕ
joined [] = []
joined (x ∷ xs) = x ++ joined xs

-- Bytes cut into arrays of these lengths.
abbrev pub cut : List ℕ → List ℕ → List (List ℕ)
cut [] s = []
cut (n ∷ ns) s = take n s ∷ cut ns (drop n s)

-- A layer as it is in a file.
abbrev pub bytes_of : Layer → List ℕ
bytes_of l = l.inputs ∷ l.neurons ∷ activation_number l.activation ∷ joined l.arrays

-- The refusals of a header. A byte above 127 is a negative number (Rust: `unsigned`).
abbrev pub header_faults : ℕ → ℕ → ℕ → List Row
header_faults i n a =
    12 when ltb 127 i
    ∷ 13 when ltb 127 n
    ∷ 14 when ltb 2 a
    ∷ 15 when eqb n 0
    ∷ []

-- The refusals of a layer with this header, if `left` bytes follow it.
abbrev pub faults : Kind → ℕ → ℕ → ℕ → ℕ → List Row
faults k i n a left = header_faults i n a ++ 16 when ltb left (size_of k i n) ∷ []

-- Rust: read_dense and read_gru. The layer at the front of some bytes. A missing byte counts as 0; refusal 11 covers
-- that.
abbrev pub layer_of : Kind → List ℕ → Layer
layer_of k s =
    let i = get_or s 0 0 in
    let n = get_or s 1 0 in
    record {
      inputs = i;
      neurons = n;
      activation = activation_of (get_or s 2 0);
      arrays = cut (lengths k i n) (drop 3 s);
    }

-- The refusals of that layer.
abbrev pub faults_of : Kind → List ℕ → List Row
faults_of k s = 11 when ltb (length s) 3 ∷ faults k (get_or s 0 0) (get_or s 1 0) (get_or s 2 0) (length (drop 3 s))

-- The bytes after that layer.
abbrev pub rest_of : Kind → List ℕ → List ℕ
rest_of k s = drop (length (bytes_of (layer_of k s))) s

-- The header of a layer that starts at this place of the file.
abbrev pub header_at : ℕ → Layer → Header
header_at at l = record { inputs = l.inputs; neurons = l.neurons; activation = l.activation; start = at + 3 }

-- The number that document 01 gives a step: 0, or the number of the refusal.
abbrev pub step_number : Step → ℕ
step_number (step.Layer h c) = 0
step_number (step.Refused n) = n

-- The values that document 01 gives a step: inputs, neurons and activation of the layer, the start of its arrays, and
-- the start of the next layer.
abbrev pub step_values : Step → List ℕ
step_values (step.Layer h c) = h.inputs ∷ h.neurons ∷ activation_number h.activation ∷ h.start ∷ c.at ∷ []
step_values (step.Refused n) = []

-- What reading a layer at this place gives.
unfoldable pub step_at : Kind → List ℕ → ℕ → Step
step_at k s at =
    let l = layer_of k (drop at s) in
    refusing (faults_of k (drop at s)) step.Refused
    (step.Layer (header_at at l) (record { at = at + length (bytes_of l) }))

-- `copy_i8`, `DenseLayer::compute` and `GruLayer::compute` of rnn.rs.
use Rattle.std.specs.Prelude.{◌+◌, ◌*◌, ◌≤◌, ◌≡◌}
use Rattle.rules.specs.Common.{ℕ, List, map, length, set, Float}
use Rattle.rules.specs.Loop.{loop}
use Rattle.rules.specs.F32.{f32, one, at, part, ◌⊕◌, ◌⊖◌, ◌⊗◌}
use Rattle.numbers.specs.Larger.{rectified}
use Rattle.numbers.specs.Activations.{tansig_approx, sigmoid_approx}
use Rattle.matrix.specs.Sums.{of_byte, mul_add}
use Rattle.model.specs.declared.Activation.{Activation}
use Rattle.model.specs.declared.Activation.TheVariants.{Tanh, Sigmoid, Relu}

-- Rust: WEIGHTS_SCALE, 1.0 / 256.0.
abbrev pub weights_scale : Float
weights_scale = f32 0x3B800000

-- An activation applied to a number.
abbrev pub activated : Activation → Float → Float
activated Tanh x = tansig_approx x
activated Sigmoid x = sigmoid_approx x
activated Relu x = rectified x

-- Rust: for (x, y) in out.iter_mut().zip(bytes) { *x = *y as f32 }, for equal lengths.
abbrev pub copied : List ℕ → List Float
copied bytes = map of_byte bytes

-- ---- a dense layer

-- Rust: *out = activation(*out * WEIGHTS_SCALE).
abbrev pub activate_step : Activation → ℕ → List Float → List Float
activate_step activation j out = set out j (activated activation (at out j ⊗ weights_scale))

-- A dense layer: bias plus weights times input, scaled and activated.
unfoldable pub dense_of : List ℕ → List ℕ → Activation → List Float → List Float
unfolding mul_add loop
dense_of weights bias activation input =
    let n = length bias in
    loop n (activate_step activation) (mul_add (copied bias) weights n 0 input)

-- ---- a GRU layer

-- The sums of the gate whose columns start at `offset`: its bias, plus weights times input, plus recurrent weights
-- times state.
unfoldable pub gate_sums : List ℕ → List ℕ → List ℕ → List Float → ℕ → ℕ → List Float → List Float
unfolding mul_add
gate_sums weights recurrent bias input n offset state =
    let start = copied (part offset (offset + n) bias) in
    mul_add (mul_add start weights (3 * n) offset input) recurrent (3 * n) offset state

-- Rust: *z = sigmoid_approx(WEIGHTS_SCALE * *z).
abbrev pub update_step : ℕ → List Float → List Float
update_step j z = set z j (sigmoid_approx (weights_scale ⊗ at z j))

-- Rust: *r = s * sigmoid_approx(WEIGHTS_SCALE * *r).
abbrev pub reset_step : List Float → ℕ → List Float → List Float
reset_step state j r = set r j (at state j ⊗ sigmoid_approx (weights_scale ⊗ at r j))

-- Rust: *s = z * *s + (1.0 - z) * activation(WEIGHTS_SCALE * h).
abbrev pub blend_step : Activation → List Float → List Float → ℕ → List Float → List Float
blend_step activation z h j state =
    set state j (at z j ⊗ at state j ⊕ (one ⊖ at z j) ⊗ activated activation (weights_scale ⊗ at h j))

-- A GRU layer: the next state. Both gates z and r read the old state.
unfoldable pub gru_of : List ℕ → List ℕ → List ℕ → Activation → List Float → List Float → List Float
unfolding gate_sums loop
gru_of weights recurrent bias activation input state =
    let n = length state in
    let sums = gate_sums weights recurrent bias input n in
    let z = loop n update_step (sums 0 state) in
    let r = loop n (reset_step state) (sums n state) in
    let h = sums (2 * n) r in
    loop n (blend_step activation z h) state

-- ---- the lengths, each count from 1 to 127

-- A number of neurons or inputs.
pub record Count (n : ℕ) : Type 0 where
  -- There is at least one.
  pub some : 1 ≤ n
  -- There are at most 127.
  pub small : n ≤ 127

-- The arrays of a dense layer have the right lengths.
pub record DenseArrays (output weights bias input : ℕ) : Type 0 where
  -- A weight for each neuron and input.
  pub weighted : weights ≡ output * input
  -- A bias for each neuron.
  pub biased : bias ≡ output

-- The arguments of a dense layer fit.
pub record DenseFits (output weights bias input : ℕ) : Type 0 where
  -- The number of neurons.
  pub neurons : Count output
  -- The number of inputs.
  pub inputs : Count input
  -- The lengths of the arrays.
  pub arrays : DenseArrays output weights bias input

-- The arrays of a GRU layer have the right lengths.
pub record GruArrays (state weights recurrent bias input : ℕ) : Type 0 where
  -- For each of the three gates, a weight for each neuron and input.
  pub weighted : weights ≡ 3 * state * input
  -- For each of the three gates, a weight for each neuron and neuron.
  pub recurs : recurrent ≡ 3 * state * state
  -- For each of the three gates, a bias for each neuron.
  pub biased : bias ≡ 3 * state

-- The arguments of a GRU layer fit.
pub record GruFits (state weights recurrent bias input : ℕ) : Type 0 where
  -- The number of neurons.
  pub neurons : Count state
  -- The number of inputs.
  pub inputs : Count input
  -- The lengths of the arrays.
  pub arrays : GruArrays state weights recurrent bias input

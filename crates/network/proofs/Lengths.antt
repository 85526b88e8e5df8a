-- A layer's output has a place for each neuron, and a state keeps its length. Assumes nothing.
use Rattle.std.specs.Prelude.{◌≡◌}
use Rattle.rules.proofs.Common.{ℕ, List, ◌∙◌, length, length-set, Float}
use lib.ListN.{length-map}
use Rattle.rules.specs.Loop.{loop}
use Rattle.rules.proofs.Loops.{same_length}
use Rattle.rules.proofs.Places.{length_get}
use Rattle.matrix.specs.Sums.{of_byte, mul_add}
use Rattle.matrix.proofs.Lengths.{length_mul_add}
use Rattle.network.specs.Layers.{copied, activate_step, blend_step, dense_of, gru_of}
use Rattle.network.specs.Compute.{array, dense_at, gru_at}
use Rattle.model.specs.Array.{place_of}
use Rattle.model.specs.Laws.{LiesIn}
use Rattle.model.specs.declared.Activation.{Activation}
use Rattle.model.specs.declared.Kind.{Kind}
use Rattle.model.specs.declared.Kind.TheVariants.{Dense, Gru}
use Rattle.model.specs.declared.Header.{Header}
use Rattle.model.proofs.Places.{place_within}

length_copied : (bytes : List ℕ) → length (copied bytes) ≡ length bytes
length_copied bytes = length-map bytes of_byte

pub length_dense_of : (weights bias : List ℕ) (activation : Activation) (input : List Float)
    → length (dense_of weights bias activation input) ≡ length bias
unfolding dense_of
length_dense_of weights bias activation input =
    same_length (activate_step activation) (λ j s. simp length-set) (length bias)
    (mul_add (copied bias) weights (length bias) 0 input)
    ∙ length_mul_add (copied bias) weights (length bias) 0 input
    ∙ length_copied bias

length_blended : (activation : Activation) (z h state : List Float)
    → length (loop (length state) (blend_step activation z h) state) ≡ length state
length_blended activation z h state =
    same_length (blend_step activation z h) (λ j s. simp length-set) (length state) state

pub length_gru_of : (weights recurrent bias : List ℕ) (activation : Activation) (input state : List Float)
    → length (gru_of weights recurrent bias activation input state) ≡ length state
unfolding gru_of
length_gru_of weights recurrent bias activation input state = simp length_blended

length_array : (bytes : List ℕ) (k : Kind) (h : Header) → LiesIn (length bytes) k h → (which : ℕ)
    → length (array bytes k h which) ≡ (place_of k h which).size
length_array bytes k h w which = length_get (place_of k h which) bytes (place_within k h w which)

-- the layers of a model
module _ (bytes : List ℕ) (h : Header) (input : List Float) where
  pub length_dense_at : LiesIn (length bytes) Dense h → length (dense_at bytes h input) ≡ h.neurons
  unfolding dense_at
  length_dense_at w =
      length_dense_of (array bytes Dense h 0) (array bytes Dense h 2) h.activation input
      ∙ length_array bytes Dense h w 2

  pub length_gru_at : (state : List Float) → length (gru_at bytes h input state) ≡ length state
  unfolding gru_at
  length_gru_at state =
      length_gru_of (array bytes Gru h 0) (array bytes Gru h 1) (array bytes Gru h 2) h.activation input state

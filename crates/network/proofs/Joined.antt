-- The parts of a layer, put together: from what each call leaves to the layer's definition. Assumes nothing.
use Rattle.std.specs.Prelude.{Result, ◌+◌, ◌*◌, ◌≤◌, ◌≡◌}
use Rattle.rules.proofs.Common.{ℕ, List, map, ◌∙◌, length, Float}
use native.Mathlib.Omega.{arith}
use Rattle.rules.specs.Loop.{loop}
use Rattle.rules.specs.F32.{part, ◌⊗◌}
use Rattle.rules.specs.declared.refusal.Refusal.{Refusal}
use Rattle.rules.proofs.Refusals.{left}
use Rattle.matrix.specs.Sums.{MulAddFits, MulAdd}
use Rattle.network.specs.Layers.{weights_scale, copied, activated, dense_of, gate_sums, update_step, reset_step}
use Rattle.network.specs.Layers.{blend_step, gru_of, DenseArrays, GruArrays}
use Rattle.network.specs.Private.{GateFits}
use Rattle.model.specs.declared.Activation.{Activation}
use Rattle.network.proofs.Listed.{activated_all}

pub dense_joined : (weights bias : List ℕ) (activation : Activation) (input : List Float) {n : ℕ}
    {k : Result Unit Refusal} {a b r : List Float}
    → DenseArrays n (length weights) (length bias) (length input) → a ≡ copied bias → length a ≡ n
    → MulAdd a weights n 0 input k b → length b ≡ length a
    → r ≡ map (λ x. activated activation (weights_scale ⊗ x)) b → r ≡ dense_of weights bias activation input
unfolding dense_of
dense_joined weights bias activation input {n} {k} {a} {b} arrays e la add lb e' =
    let fits : MulAddFits (length a) (length weights) n 0 (length input) =
    record { rows = omega arith; columns = arrays.weighted } in
    e' ∙ activated_all activation b ∙ rw (lb ∙ la, left add fits, e, arrays.biased)

pub sums_joined : (weights recurrent bias : List ℕ) (input state : List Float) (n offset : ℕ)
    {k l : Result Unit Refusal}
    {a b r : List Float}
    → GateFits n (length weights) (length recurrent) (length bias) offset (length input) (length state)
    → a ≡ copied (part offset (offset + n) bias) → length a ≡ n
    → MulAdd a weights (3 * n) offset input k b → length b ≡ length a → MulAdd b recurrent (3 * n) offset state l r
    → r ≡ gate_sums weights recurrent bias input n offset state
unfolding gate_sums
sums_joined weights recurrent bias input state n offset {k} {l} {a} {b} fits e la add lb again =
    let first : MulAddFits (length a) (length weights) (3 * n) offset (length input) =
    record { rows = omega (arith, fits.inside); columns = fits.weighted } in
    let second : MulAddFits (length b) (length recurrent) (3 * n) offset (length state) =
    record { rows = omega (arith, fits.inside); columns = fits.recurs } in
    left again second ∙ rw (left add first, e)

pub gate_fits : {n weights recurrent bias offset input out state : ℕ} → GruArrays n weights recurrent bias input
    → out ≡ n → state ≡ n → offset ≤ 2 * n
    → GateFits out weights recurrent bias offset input state
gate_fits fits same same' h =
    record {
      inside = omega arith;
      weighted = rw same fits.weighted;
      recurs = rw (same, same') fits.recurs;
      biased = rw same fits.biased;
    }

-- a, b and h are a gate's sums each, in a slice of n numbers
pub gru_joined : (weights recurrent bias : List ℕ) (activation : Activation) (input state : List Float)
    {nz na nr nb nh : ℕ} {a z b r h s : List Float}
    → nz ≡ length state → a ≡ gate_sums weights recurrent bias input nz 0 state → na ≡ length state
    → z ≡ loop na update_step a
    → nr ≡ length state → b ≡ gate_sums weights recurrent bias input nr (length state) state → nb ≡ length state
    → r ≡ loop nb (reset_step state) b
    → nh ≡ length state → h ≡ gate_sums weights recurrent bias input nh (2 * length state) r
    → s ≡ loop (length state) (blend_step activation z h) state
    → s ≡ gru_of weights recurrent bias activation input state
unfolding gru_of
gru_joined weights recurrent bias activation input state lz ea la ez lr eb lb er lh eh es =
    es ∙ rw (ez, ea, eh, er, eb, la, lz, lb, lr, lh)

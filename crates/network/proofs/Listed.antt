-- The loops of a layer over whole lists: an activation is a map, and a gate's loop is a map and a loop behind it.
-- Assumes nothing.
use Rattle.std.specs.Prelude.{◌<◌, ◌≡◌}
use Rattle.rules.proofs.Common.{ℕ, List, map, sym, ap, ◌∙◌, length, set, Float, binary32, nan}
use mathlib.Core.List.{map-map}
use native.Mathlib.Omega.{arith}
use Rattle.rules.specs.F32.{one, at, ◌⊕◌, ◌⊖◌, ◌⊗◌}
use Rattle.rules.specs.Loop.{loop}
use Rattle.floats.proofs.Signs.{mul_swap}
use Rattle.rules.proofs.Lists.{fused, tab_map, each_map, get_d_tab}
use Rattle.rules.proofs.Loops.{loop_same}
use Rattle.numbers.specs.Activations.{sigmoid_in, sigmoid_approx}
use Rattle.numbers.specs.Tansig.{tansig}
use Rattle.model.specs.declared.Activation.{Activation}
use Rattle.network.specs.Layers.{weights_scale, activated, activate_step, update_step, reset_step, blend_step}
use Rattle.network.specs.Private.{times_step, mix_step}

-- the sums scaled, and then mapped
scaled : (g : Float → Float) (sums : List Float) {a r : List Float} → a ≡ map (λ x. weights_scale ⊗ x) sums
    → r ≡ map g a
    → r ≡ map (λ x. g (weights_scale ⊗ x)) sums
scaled g sums made e = e ∙ ap (map g) made ∙ map-map g (λ x. weights_scale ⊗ x) sums

-- by an activation that is k
pub activated_by : (k : Activation) (g : Float → Float) (sums : List Float) {activation : Activation} {a r : List Float}
    → activation ≡ k → ((x : Float) → g x ≡ activated k x)
    → a ≡ map (λ x. weights_scale ⊗ x) sums → r ≡ map g a → r ≡ map (λ x. activated activation (weights_scale ⊗ x)) sums
activated_by k g sums told same made e =
    scaled g sums made e ∙ (λ i. map (λ x. same (weights_scale ⊗ x) i) sums)
    ∙ ap (λ (l : Activation). map (λ x. activated l (weights_scale ⊗ x)) sums) (sym told)

pub activated_all : (activation : Activation) (out : List Float)
    → map (λ x. activated activation (weights_scale ⊗ x)) out ≡ loop (length out) (activate_step activation) out
activated_all activation out =
    (λ i. map (λ x. activated activation (mul_swap binary32 weights_scale x i)) out)
    ∙ sym (each_map (λ x. activated activation (x ⊗ weights_scale)) nan out)

pub updated : (table sums : List Float) {a r : List Float} → table ≡ tansig → a ≡ map (λ x. weights_scale ⊗ x) sums
    → r ≡ map (sigmoid_in table) a → r ≡ loop (length sums) update_step sums
updated table sums filled made e =
    scaled (sigmoid_in table) sums made e
    ∙ ap (λ (t : List Float). map (λ x. sigmoid_in t (weights_scale ⊗ x)) sums) filled
    ∙ sym (each_map (λ x. sigmoid_approx (weights_scale ⊗ x)) nan sums)

pub reset_joined : (state sums : List Float) {gates left : List Float} → gates ≡ loop (length sums) update_step sums
    → length gates ≡ length sums
    → left ≡ loop (length gates) (times_step state) gates → left ≡ loop (length sums) (reset_step state) sums
reset_joined state sums {gates} made long e =
    e ∙ rw (
      long,
      made,
    )
    (sym
    (fused nan (λ j x. sigmoid_approx (weights_scale ⊗ x)) (λ j x. at state j ⊗ x) (length sums) sums (omega arith)))

at_map : (f : Float → Float) (xs : List Float) (i : ℕ) → i < length xs → at (map f xs) i ≡ f (at xs i)
at_map f xs i inside =
    ap (λ (l : List Float). at l i) (sym (tab_map f nan xs)) ∙ get_d_tab (length xs) (λ k. f (at xs k)) i nan inside

pub blend_joined : (activation : Activation) (z h state : List Float) {new left : List Float} → length h ≡ length state
    → new ≡ map (λ x. activated activation (weights_scale ⊗ x)) h → left ≡ loop (length state) (mix_step z new) state
    → left ≡ loop (length state) (blend_step activation z h) state
blend_joined activation z h state {new} same made e =
    let f : Float → Float = λ x. activated activation (weights_scale ⊗ x) in
    e
    ∙ loop_same (length state) (mix_step z new) (blend_step activation z h) state
    (λ i t inside. ap (λ (v : Float). set t i (at z i ⊗ at t i ⊕ (one ⊖ at z i) ⊗ v))
    (ap (λ (l : List Float). at l i) made ∙ at_map f h i (omega arith)))

-- What document 01 says of a step. Assumes nothing.
use Rattle.std.specs.Prelude.{◌+◌, ◌∷◌}
use Rattle.rules.proofs.Common.{[], refl, length, drop}
use Rattle.rules.proofs.Refusals.{along}
use Rattle.model.specs.Layer.{activation_number, bytes_of, layer_of, faults_of, header_at, step_number, step_values}
use Rattle.model.specs.Layer.{step_at}
use Rattle.model.specs.Laws.{StepInPaper}
use Rattle.model.specs.Step.{Step}
use Rattle.model.specs.Step as step

pub step_in_paper : StepInPaper
unfolding step_at
step_in_paper k s at =
    let l = layer_of k (drop at s) in
    let rows = faults_of k (drop at s) in
    let read : Step = step.Layer (header_at at l) (record { at = at + length (bytes_of l) }) in (
      along step_number step.Refused read (λ n. n) 0 rows (λ n. refl) (λ _. refl),
      along step_values step.Refused read (λ n. [])
          (l.inputs ∷ l.neurons ∷ activation_number l.activation ∷ (at + 3) ∷ (at + length (bytes_of l)) ∷ []) rows
          (λ n. refl) (λ _. refl),
    )

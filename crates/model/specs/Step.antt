-- What a step over a layer gives, with the numbers of docs/REFUSALS.md.
use Rattle.std.specs.Prelude.{Result, Ok, Err}
use Rattle.rules.specs.Common.{ℕ}
use Rattle.rules.specs.Refusal.{refusal_number}
use Rattle.rules.specs.declared.refusal.Refusal.{Refusal}
use Rattle.model.specs.declared.Cursor.{Cursor}
use Rattle.model.specs.declared.Header.{Header}

-- A layer with the reading place behind it, or the number of a refusal.
pub data Step : Type 0 where
  Layer : Header → Cursor → Step
  Refused : ℕ → Step

-- What the code answers, as a step.
abbrev pub layer_step : Result (Header × Cursor) Refusal → Step
layer_step (Ok p) = Layer p.0 p.1
layer_step (Err refusal) = Refused (refusal_number refusal)

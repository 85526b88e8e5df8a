-- What reading a file gives, with the numbers of docs/REFUSALS.md.
use Rattle.std.specs.Prelude.{Result, Ok, Err}
use Rattle.rules.specs.Common.{ℕ}
use Rattle.rules.specs.Refusal.{refusal_number}
use Rattle.model.specs.declared.Model.{Model}
use Rattle.model.specs.declared.Misread.{Misread}

-- A good model, or the number of a refusal and its layer.
pub data Reading : Type 0 where
  Good : Model → Reading
  Refused : ℕ → ℕ → Reading

-- What the code answers, as a reading.
abbrev pub model_read : Result Model Misread → Reading
model_read (Ok m) = Good m
model_read (Err e) = Refused (refusal_number e.refusal) e.layer

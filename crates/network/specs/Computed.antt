-- What a call for a frame answers, with the numbers of docs/REFUSALS.md.
use Rattle.std.specs.Prelude.{Result, Ok, Err}
use Rattle.rules.specs.Common.{ℕ}
use Rattle.rules.specs.Refusal.{refusal_number}
use Rattle.network.specs.declared.Unfit.{Unfit}
use Rattle.network.specs.declared.Unfit.TheVariants.{BadLength, BadModel}

-- Done, or the number of a refusal, or the number and the layer of a refusal of the model.
pub data Computed : Type 0 where
  Done : Computed
  Refused : ℕ → Computed
  Misread : ℕ → ℕ → Computed

-- What the code answers, as such a value.
abbrev pub computed_of : Result Unit Unfit → Computed
computed_of (Ok _) = Done
computed_of (Err BadLength) = Refused 5
computed_of (Err (BadModel e)) = Misread (refusal_number e.refusal) e.layer

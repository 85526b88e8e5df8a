-- For the contracts of private functions: what a function leaves, as a value of the step's definition.
use Rattle.std.specs.Prelude.{◌≡◌}
use Rattle.rules.specs.Common.{ℕ, List, Float}
use Rattle.model.specs.Model.{read_of}
use Rattle.model.specs.declared.Model.{Model}
use Rattle.model.specs.Reading.{Reading, Good, Refused}
use Rattle.frame.specs.Heard.{Featured, Rnn, Spoken}

-- A file reads as a model.
abbrev pub IsModel : Reading → Type 0
IsModel (Good m) = Unit
IsModel (Refused n l) = ⊥

-- P holds of the model, if the bytes read as one.
abbrev pub Reads : List ℕ → (Model → Type 0) → Type 0
Reads bytes P = (m : Model) → read_of bytes ≡ Good m → P m

abbrev pub featured_as : List Float → List Float → List Float → Featured
featured_as share features exp = record { share = share; features = features; exp = exp }

abbrev pub rnn_as : List Float → List Float → Float → Rnn
rnn_as share gains voice = record { share = share; gains = gains; voice = voice }

abbrev pub spoken_as : List Float → Float → List Float → Spoken
spoken_as share voice spectrum = record { share = share; voice = voice; spectrum = spectrum }

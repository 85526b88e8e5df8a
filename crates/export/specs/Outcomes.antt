-- Only one result meets a contract. A contract often speaks of its result by what a conversion makes of it, such as the
-- number that a host is told. That fixes the result only if no two results are converted alike, which is said here.
use Rattle.std.specs.Prelude.{◌∷◌, ◌≡◌, Result}
use Rattle.rules.specs.Common.{ℕ, []}
use Rattle.rules.specs.Refusal.{refusal_number, told}
use Rattle.rules.specs.declared.refusal.Refusal.{Refusal}
use Rattle.model.specs.Layer.{Numbered}
use Rattle.model.specs.declared.Activation.{Activation}
use Rattle.model.specs.Step.{layer_step}
use Rattle.model.specs.Reading.{model_read}
use Rattle.model.specs.Summary.{layer_told}
use Rattle.model.specs.Array.{taken_number}
use Rattle.network.specs.Computed.{computed_of}
use Rattle.frame.specs.Answer.{as_reply, test_as_reply}
use Rattle.desk.specs.Answer.{answer_of}
use Rattle.desk.specs.declared.Record.{Record}
use Rattle.whole.specs.declared.heard.Three.{Three}
use Rattle.sheet.specs.End.{read_as}
use Rattle.wav.specs.Chunks.{step_as, next_told}
use Rattle.wav.specs.Seal.{seal_as}

-- What this conversion makes of two values is the same only if they are the same.
abbrev pub TellsApart : {A B : Type 0} → (A → B) → Type 0
TellsApart {A} c = (a b : A) → c a ≡ c b → a ≡ b

-- So it is with each conversion by which a contract of a public function speaks of its result. (Where the result is a
-- slice, the contract says where it starts and what it holds.)
pub record OneResult : Type 0 where
  -- No two refusals have the same number.
  pub refusals : TellsApart refusal_number
  -- What a host is told, where no more comes back than that it is done.
  pub hosts : TellsApart (told {A = Unit})
  -- A step over a layer of a model file, the file as a whole, what a host is told of it, and which of two files is
  -- taken.
  pub layers : TellsApart layer_step
  pub models : TellsApart model_read
  pub model_hosts : TellsApart layer_told
  pub choices : TellsApart taken_number
  -- And the activation with a number. No conversion is in that contract: it says when there is one, and which.
  pub activations : (n : ℕ) (a b : Result Activation Refusal) → Numbered n a → Numbered n b → a ≡ b
  -- A frame through the network.
  pub frames : TellsApart computed_of
  -- A call on a share, and a test of one.
  pub calls : TellsApart as_reply
  pub tests : TellsApart test_as_reply
  -- A call of the desk, which was given this record.
  pub desk_calls : (rec : Record) → TellsApart (answer_of rec)
  -- The three numbers of a frame.
  pub threes : TellsApart (λ (three : Three). three.heard ∷ three.voice ∷ three.energy ∷ [])
  -- A sheet.
  pub sheets : TellsApart read_as
  -- A step over the chunks of a WAV file, and what a host is told of it.
  pub chunks : TellsApart step_as
  pub chunk_hosts : TellsApart next_told
  -- A seal.
  pub seals : TellsApart seal_as

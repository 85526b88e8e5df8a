-- What a call gives, and what a contract says about it.
use Rattle.std.specs.Prelude.{◌≡◌}
use Rattle.rules.specs.Common.{ℕ, cond, List, [], length, drop, Float}
use Rattle.frame.specs.Written.{Written, onto, fronts}
use Rattle.frame.specs.Reply.{passed, first_refusal, Reply}

-- The outcome of a call: its answer, the share or store that it leaves, and what it writes to each answer
-- buffer, in order.
pub record Effect (A : Type 0) : Type 0 where
  pub answer : A
  pub kept : List Float
  pub written : List Written

-- A refused call leaves everything unchanged and writes nothing.
abbrev pub refusal : {A : Type 0} → A → List Float → Effect A
refusal answer kept = record { answer = answer; kept = kept; written = [] }

-- The first refusal of the table; if there is none, the outcome f.
abbrev pub unless : List Reply → List Float → Effect Reply → Effect Reply
unless rows share f = let reply = first_refusal rows in cond (passed reply) f (refusal reply share)

-- What a contract says about a call: it answers, leaves and writes what f says. `held` is what the answer
-- buffers held before.
pub record Worked {A : Type 0} (f : Effect A) (answer : A) (kept : List Float)
    (held out : List (List Float)) : Type 0 where
  pub answers : answer ≡ f.answer
  pub keeps : kept ≡ f.kept
  pub writes : out ≡ onto f.written held

-- The same for a call that is also lent buffers of whole numbers (bytes, entries). In f these come after the
-- buffers of floats.
pub record WorkedBoth {A : Type 0} (f : Effect A) (answer : A) (kept : List Float) (held out : List (List Float))
    (wholes wholes' : List (List ℕ)) : Type 0 where
  pub floats : Worked f answer kept held out
  pub notes : wholes' ≡ fronts (drop (length held) f.written) wholes

-- There is only one outcome that meets a contract.
abbrev pub Settled : Type 0 → Type 0
Settled A =
    (f : Effect A) (answer answer' : A) (kept kept' : List Float) (held out out' : List (List Float))
    → Worked f answer kept held out → Worked f answer' kept' held out'
    → (answer ≡ answer') × (kept ≡ kept') × (out ≡ out')

abbrev pub SettledBoth : Type 0 → Type 0
SettledBoth A =
    (f : Effect A) (answer answer' : A) (kept kept' : List Float) (held out out' : List (List Float))
    (wholes noted noted' : List (List ℕ))
    → WorkedBoth f answer kept held out wholes noted → WorkedBoth f answer' kept' held out' wholes noted'
    → (answer ≡ answer') × (kept ≡ kept') × (out ≡ out') × (noted ≡ noted')

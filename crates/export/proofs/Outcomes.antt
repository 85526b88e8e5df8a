-- No two results are converted alike (specs/Outcomes): each conversion has a way back.
--     by_way_back        a conversion with a way back tells apart what it is given
--     number_found       the way back from a refusal's number: the first of all refusals that has it
--     one_result         every conversion tells apart what it is given
-- Assumes nothing.
use Rattle.std.specs.Prelude.{◌+◌, ◌*◌, ◌/◌, ◌%◌, ◌≡◌, Option, Some, None, Result, Ok, Err}
use Rattle.rules.proofs.Common.{ℕ, zero, suc, cond, List, [], ◌∷◌, refl, sym, ap, ap₂, ◌∙◌, eqb, Float}
use native.Mathlib.Omega.{arith}
use Rattle.rules.specs.F32.{at}
use Rattle.rules.specs.Refusal.{refusal_number, told}
use Rattle.rules.specs.declared.refusal.Refusal.{Refusal}
use Rattle.rules.specs.declared.refusal.Refusal.TheVariants as refusal
use Rattle.model.specs.Layer.{Numbered}
use Rattle.model.specs.Step as layer
use Rattle.model.specs.Reading as model
use Rattle.model.specs.Summary.{layer_told}
use Rattle.model.specs.Array.{taken_number}
use Rattle.model.specs.declared.Activation.{Activation}
use Rattle.model.specs.declared.Cursor.{Cursor}
use Rattle.model.specs.declared.Header.{Header}
use Rattle.model.specs.declared.Misread.{Misread}
use Rattle.model.specs.declared.Model.{Model}
use Rattle.model.specs.declared.Taken.{Taken}
use Rattle.model.specs.declared.Taken.TheVariants.{Trial, House, Neither}
use Rattle.model.proofs.Numbers.{number_in_range}
use Rattle.network.specs.Computed as network
use Rattle.network.specs.declared.Unfit.{Unfit}
use Rattle.network.specs.declared.Unfit.TheVariants.{BadLength, BadModel}
use Rattle.frame.specs.Reply as reply
use Rattle.frame.specs.Answer.{reply_told, reply_refused, as_reply, test_as_reply}
use Rattle.frame.specs.declared.answer.Told.{Told}
use Rattle.frame.specs.declared.answer.Told.TheVariants as told
use Rattle.frame.specs.declared.answer.Cause.{Cause}
use Rattle.frame.specs.declared.answer.Cause.TheVariants as cause
use Rattle.desk.specs.Answer.{Answer, answer_of}
use Rattle.desk.specs.declared.Record.{Record}
use Rattle.whole.specs.declared.heard.Three.{Three}
use Rattle.sheet.specs.End as sheet
use Rattle.sheet.specs.declared.Found.{Found}
use Rattle.wav.specs.Chunks as chunk
use Rattle.wav.specs.declared.chunks.Head.{Head}
use Rattle.wav.specs.declared.chunks.Next.{Next}
use Rattle.wav.specs.declared.chunks.Next.TheVariants as next
use Rattle.wav.specs.Seal as seal
use Rattle.wav.specs.declared.seal.Seal.{Seal}
use Rattle.export.specs.Outcomes.{TellsApart, OneResult}

by_way_back : {A B : Type 0} {c : A → B} (back : B → A) → ((a : A) → back (c a) ≡ a) → TellsApart c
by_way_back back law a b e = sym (law a) ∙ ap back e ∙ law b

-- ---- from the number of a refusal

abbrev all : List Refusal
all =
    refusal.NoSuchSide ∷ refusal.OutOfRange ∷ refusal.Closed ∷ refusal.NotDue ∷ refusal.WrongLength
    ∷ refusal.LagTooLarge ∷ refusal.OtherCounts ∷ refusal.BadSample ∷ refusal.ModelNoHeader ∷ refusal.ModelInputs
    ∷ refusal.ModelNeurons ∷ refusal.ModelActivation ∷ refusal.ModelNoNeurons ∷ refusal.ModelArray
    ∷ refusal.ModelBytesLeft ∷ refusal.ModelEnds ∷ refusal.ModelVadGru ∷ refusal.ModelNoiseGru
    ∷ refusal.ModelDenoiseGru ∷ refusal.ModelDenoiseOutput ∷ refusal.ModelNoRoom ∷ refusal.SheetShort
    ∷ refusal.SheetDistance ∷ refusal.SheetSide ∷ refusal.SheetRecord ∷ refusal.SheetSum ∷ refusal.SheetNoRoom
    ∷ refusal.MendPlace ∷ refusal.MendNothing ∷ refusal.WavNoRiff ∷ refusal.WavEnds ∷ refusal.WavNoFormat
    ∷ refusal.WavShortFormat ∷ refusal.WavFormat ∷ refusal.WavChannels ∷ refusal.WavBlock ∷ refusal.SealNone
    ∷ refusal.SealChecksum ∷ refusal.SealSide ∷ refusal.RecordingHead ∷ refusal.RecordingAudio
    ∷ refusal.RecordingSeal ∷ refusal.RecordingRecords ∷ refusal.RecordingTrailer ∷ refusal.RecordingLonger
    ∷ refusal.RecorderTooLong ∷ refusal.RecorderRecords ∷ refusal.RecorderSize ∷ refusal.RecorderFrames
    ∷ refusal.RecorderNoCut ∷ []

abbrev first_of : List Refusal → ℕ → Option Refusal
first_of [] n = None
first_of (r ∷ rs) n = cond (eqb (refusal_number r) n) (Some r) (first_of rs n)

abbrev numbered : ℕ → Option Refusal
numbered n = first_of all n

number_found : (r : Refusal) → numbered (refusal_number r) ≡ Some r
number_found refusal.NoSuchSide = refl
number_found refusal.OutOfRange = refl
number_found refusal.Closed = refl
number_found refusal.NotDue = refl
number_found refusal.WrongLength = refl
number_found refusal.LagTooLarge = refl
number_found refusal.OtherCounts = refl
number_found refusal.BadSample = refl
number_found refusal.ModelNoHeader = refl
number_found refusal.ModelInputs = refl
number_found refusal.ModelNeurons = refl
number_found refusal.ModelActivation = refl
number_found refusal.ModelNoNeurons = refl
number_found refusal.ModelArray = refl
number_found refusal.ModelBytesLeft = refl
number_found refusal.ModelEnds = refl
number_found refusal.ModelVadGru = refl
number_found refusal.ModelNoiseGru = refl
number_found refusal.ModelDenoiseGru = refl
number_found refusal.ModelDenoiseOutput = refl
number_found refusal.ModelNoRoom = refl
number_found refusal.SheetShort = refl
number_found refusal.SheetDistance = refl
number_found refusal.SheetSide = refl
number_found refusal.SheetRecord = refl
number_found refusal.SheetSum = refl
number_found refusal.SheetNoRoom = refl
number_found refusal.MendPlace = refl
number_found refusal.MendNothing = refl
number_found refusal.WavNoRiff = refl
number_found refusal.WavEnds = refl
number_found refusal.WavNoFormat = refl
number_found refusal.WavShortFormat = refl
number_found refusal.WavFormat = refl
number_found refusal.WavChannels = refl
number_found refusal.WavBlock = refl
number_found refusal.SealNone = refl
number_found refusal.SealChecksum = refl
number_found refusal.SealSide = refl
number_found refusal.RecordingHead = refl
number_found refusal.RecordingAudio = refl
number_found refusal.RecordingSeal = refl
number_found refusal.RecordingRecords = refl
number_found refusal.RecordingTrailer = refl
number_found refusal.RecordingLonger = refl
number_found refusal.RecorderTooLong = refl
number_found refusal.RecorderRecords = refl
number_found refusal.RecorderSize = refl
number_found refusal.RecorderFrames = refl
number_found refusal.RecorderNoCut = refl

-- of a number that only a refusal has
abbrev refusal_in : Option Refusal → Refusal
refusal_in (Some r) = r
refusal_in None = refusal.NoSuchSide

abbrev refusal_of : ℕ → Refusal
refusal_of n = refusal_in (numbered n)

refusal_back : (r : Refusal) → refusal_of (refusal_number r) ≡ r
refusal_back r = ap refusal_in (number_found r)

-- of any number: a refusal's, or that of what is done
abbrev done_unless : {A : Type 0} → A → Option Refusal → Result A Refusal
done_unless a (Some r) = Err r
done_unless a None = Ok a

abbrev host_back : ℕ → Result Unit Refusal
host_back n = done_unless tt (numbered n)

hosts : TellsApart (told {A = Unit})
hosts = by_way_back host_back law
  where
    law : (a : Result Unit Refusal) → host_back (told a) ≡ a
    law (Ok _) = refl
    law (Err r) = ap (done_unless tt) (number_found r)

-- ---- of a model file

abbrev misread : ℕ → ℕ → Misread
misread n j = record { refusal = refusal_of n; layer = j }

misread_back : (e : Misread) → misread (refusal_number e.refusal) e.layer ≡ e
misread_back e = ap (λ (r : Refusal). record { refusal = r; layer = e.layer }) (refusal_back e.refusal)

abbrev layer_back : layer.Step → Result (Header × Cursor) Refusal
layer_back (layer.Layer h c) = Ok (h, c)
layer_back (layer.Refused n) = Err (refusal_of n)

layers : TellsApart layer.layer_step
layers = by_way_back layer_back law
  where
    law : (a : Result (Header × Cursor) Refusal) → layer_back (layer.layer_step a) ≡ a
    law (Ok p) = refl
    law (Err r) = ap Err (refusal_back r)

abbrev model_back : model.Reading → Result Model Misread
model_back (model.Good m) = Ok m
model_back (model.Refused n j) = Err (misread n j)

models : TellsApart model.model_read
models = by_way_back model_back law
  where
    law : (a : Result Model Misread) → model_back (model.model_read a) ≡ a
    law (Ok m) = refl
    law (Err e) = ap Err (misread_back e)

abbrev misread_unless : ℕ → Option Refusal → Result Unit Misread
misread_unless j (Some r) = Err (record { refusal = r; layer = j })
misread_unless j None = Ok tt

abbrev model_host_back : ℕ → Result Unit Misread
model_host_back n = misread_unless (n / 65536) (numbered (n % 65536))

model_hosts : TellsApart layer_told
model_hosts = by_way_back model_host_back law
  where
    law : (a : Result Unit Misread) → model_host_back (layer_told a) ≡ a
    law (Ok _) = refl
    law (Err e) =
        let bound = number_in_range e.refusal in
        let n = refusal_number e.refusal in
        let layer_is : (n + 65536 * e.layer) / 65536 ≡ e.layer = omega arith in
        let number_is : (n + 65536 * e.layer) % 65536 ≡ n = omega arith in
        ap₂ misread_unless layer_is (ap numbered number_is ∙ number_found e.refusal)

abbrev taken_back : ℕ → Taken
taken_back zero = Trial
taken_back (suc zero) = House
taken_back (suc (suc n)) = Neither

choices : TellsApart taken_number
choices = by_way_back taken_back law
  where
    law : (a : Taken) → taken_back (taken_number a) ≡ a
    law Trial = refl
    law House = refl
    law Neither = refl

activations : (n : ℕ) (a b : Result Activation Refusal) → Numbered n a → Numbered n b → a ≡ b
activations n (Ok a) (Ok b) p q = ap Ok (p.1 ∙ sym q.1)
activations n (Ok a) (Err s) p q = absurd (omega arith)
activations n (Err r) (Ok b) p q = absurd (omega arith)
activations n (Err r) (Err s) p q = ap Err (p.1 ∙ sym q.1)

-- ---- of a frame through the network

abbrev frame_back : network.Computed → Result Unit Unfit
frame_back network.Done = Ok tt
frame_back (network.Refused n) = Err BadLength
frame_back (network.Misread n j) = Err (BadModel (misread n j))

frames : TellsApart network.computed_of
frames = by_way_back frame_back law
  where
    law : (a : Result Unit Unfit) → frame_back (network.computed_of a) ≡ a
    law (Ok _) = refl
    law (Err BadLength) = refl
    law (Err (BadModel e)) = ap (λ (x : Misread). Err (BadModel x)) (misread_back e)

-- ---- of a call

abbrev reply_back : reply.Reply → Result Told Cause
reply_back reply.Done = Ok told.Done
reply_back reply.Silent = Ok told.Silent
reply_back (reply.Heard voice energy) = Ok (told.Heard voice energy)
reply_back (reply.Numbered number heard) = Ok (told.Numbered number heard)
reply_back (reply.Refused n) = Err (cause.Plain (refusal_of n))
reply_back (reply.Misread n j) = Err (cause.Model (misread n j))

told_back : (t : Told) → reply_back (reply_told t) ≡ Ok t
told_back told.Done = refl
told_back told.Silent = refl
told_back (told.Heard voice energy) = refl
told_back (told.Numbered number heard) = refl

cause_back : (c : Cause) → reply_back (reply_refused c) ≡ Err c
cause_back (cause.Plain r) = ap (λ (x : Refusal). Err (cause.Plain x)) (refusal_back r)
cause_back (cause.Model e) = ap (λ (x : Misread). Err (cause.Model x)) (misread_back e)

calls : TellsApart as_reply
calls = by_way_back reply_back law
  where
    law : (a : Result Told Cause) → reply_back (as_reply a) ≡ a
    law (Ok t) = told_back t
    law (Err c) = cause_back c

-- a test tells less than a call, and a call of the desk gives a record besides
abbrev untold : Result Told Cause → Result Unit Cause
untold (Ok t) = Ok tt
untold (Err c) = Err c

tests : TellsApart test_as_reply
tests = by_way_back (λ (r : reply.Reply). untold (reply_back r)) law
  where
    law : (a : Result Unit Cause) → untold (reply_back (test_as_reply a)) ≡ a
    law (Ok _) = refl
    law (Err c) = ap untold (cause_back c)

abbrev with_record : Record → Result Told Cause → Result (Told × Record) Cause
with_record rec (Ok t) = Ok (t, rec)
with_record rec (Err c) = Err c

desk_calls : (rec : Record) → TellsApart (answer_of rec)
desk_calls rec = by_way_back (λ (a : Answer). with_record a.rec (reply_back a.reply)) law
  where
    law : (a : Result (Told × Record) Cause)
        → let b = answer_of rec a in with_record b.rec (reply_back b.reply) ≡ a
    law (Ok (t, next)) = ap (with_record next) (told_back t)
    law (Err c) = ap (with_record rec) (cause_back c)

threes : TellsApart (λ (three : Three). three.heard ∷ three.voice ∷ three.energy ∷ [])
threes =
    by_way_back (λ (xs : List Float). record { heard = at xs 0; voice = at xs 1; energy = at xs 2 }) (λ three. refl)

-- ---- of a sheet and a WAV file

abbrev sheet_back : sheet.Reading → Result Found Refusal
sheet_back (sheet.Good start records side) = Ok (record { start = start; records = records; side = side })
sheet_back (sheet.Refused n) = Err (refusal_of n)

sheets : TellsApart sheet.read_as
sheets = by_way_back sheet_back law
  where
    law : (a : Result Found Refusal) → sheet_back (sheet.read_as a) ≡ a
    law (Ok found) = refl
    law (Err r) = ap Err (refusal_back r)

abbrev chunk_back : chunk.Step → Result (Next × Head) Refusal
chunk_back (chunk.Audio h) = Ok (next.Found, h)
chunk_back (chunk.On h) = Ok (next.More, h)
chunk_back (chunk.Refused n) = Err (refusal_of n)

chunks : TellsApart chunk.step_as
chunks = by_way_back chunk_back law
  where
    law : (a : Result (Next × Head) Refusal) → chunk_back (chunk.step_as a) ≡ a
    law (Ok (next.Found, h)) = refl
    law (Ok (next.More, h)) = refl
    law (Err r) = ap Err (refusal_back r)

abbrev chunk_host_back : ℕ → Result Next Refusal
chunk_host_back n = done_unless (cond (eqb n 0) next.Found next.More) (numbered n)

chunk_hosts : TellsApart chunk.next_told
chunk_hosts = by_way_back chunk_host_back law
  where
    law : (a : Result Next Refusal) → chunk_host_back (chunk.next_told a) ≡ a
    law (Ok next.Found) = refl
    law (Ok next.More) = refl
    law (Err r) = ap (done_unless _) (number_found r)

abbrev seal_back : seal.Reading → Result Seal Refusal
seal_back (seal.Whole s) = Ok s
seal_back (seal.Refused n) = Err (refusal_of n)

seals : TellsApart seal.seal_as
seals = by_way_back seal_back law
  where
    law : (a : Result Seal Refusal) → seal_back (seal.seal_as a) ≡ a
    law (Ok s) = refl
    law (Err r) = ap Err (refusal_back r)

-- ---- every conversion

pub one_result : OneResult
one_result = record {
  refusals = by_way_back refusal_of refusal_back;
  hosts = hosts;
  layers = layers;
  models = models;
  model_hosts = model_hosts;
  choices = choices;
  activations = activations;
  frames = frames;
  calls = calls;
  tests = tests;
  desk_calls = desk_calls;
  threes = threes;
  sheets = sheets;
  chunks = chunks;
  chunk_hosts = chunk_hosts;
  seals = seals;
}

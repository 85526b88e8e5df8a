-- Claims about the calls that are made of others, on one share. Proofs: proofs/Sister, Lagged, Joined,
-- Tested.
use Rattle.std.specs.Prelude.{◌∷◌, ◌≡◌}
use Rattle.rules.specs.Common.{ℕ, true, false, not, List, [], ltb, length, drop, Float}
use Rattle.rules.specs.Place.{get}
use Rattle.rules.specs.Refusals.{wrong}
use Rattle.frame.specs.Written.{Written, first_in}
use Rattle.samples.specs.Samples.{good}
use Rattle.model.specs.Model.{read_of}
use Rattle.lag.specs.Lag.{own_lag}
use Rattle.transforms.specs.Transform.{forward_of, inverse_of}
use Rattle.frame.specs.declared.Hearing.{Hearing}
use Rattle.frame.specs.Reply.{Reply, passed, ◌refusedIf◌, first_refusal}
use Rattle.frame.specs.declared.Way.{Way}
use Rattle.frame.specs.declared.Way.TheVariants.{Own}
use Rattle.frame.specs.Effect.{Effect, refusal, unless}
use Rattle.frame.specs.Share.{PART, input_mem}
use Rattle.frame.specs.Frame.{call1, done2, call2, counted, checked, call3, call4}
use Rattle.halves.specs.Own.{call2_own}
use Rattle.halves.specs.Ways.{lag_by, remembered, forward_by, inverse_by}
use Rattle.halves.specs.Halves.{first_half, looked_back, second_half}

-- The sister has call 2's refusals, except that 6 never comes up (request 04): it is refused with 5 for a
-- wrong length, or done with our own lag.
abbrev pub SisterByFive : Type 0
SisterByFive =
    (share spectrum : List Float) (window sums : ℕ)
    → call2_own share spectrum window sums
    ≡ unless (5 refusedIf wrong ((length share, PART) ∷ (length spectrum, 961) ∷ (window, 960) ∷ (sums, 22) ∷ []) ∷ [])
    share
    (done2 share spectrum (own_lag (get input_mem share)))

-- A half tests all refusals of its two calls before it does anything, in the order of a table (request 08). If a row
-- refuses, the half is that refusal and keeps the share. If none does, the half is done.
pub record Tests (rows : List Reply) (share : List Float) (half : Effect Reply) : Type 0 where
  pub refuses : passed (first_refusal rows) ≡ false → half ≡ refusal (first_refusal rows) share
  pub does : passed (first_refusal rows) ≡ true → passed half.answer ≡ true

-- The first half: 5 for a wrong length, then 9 for a bad sample. 6 is never due, because the half finds its lag itself.
abbrev pub FirstTests : Type 0
FirstTests =
    (share : List Float) (way : Way) (samples : List Float) (sums : ℕ)
    → Tests (5 refusedIf wrong ((length share, PART) ∷ (length samples, 480) ∷ (sums, 22) ∷ [])
    ∷ 9 refusedIf not (good samples) ∷ []) share
    (first_half share way samples sums)

-- The second half: 5 for a wrong length or a cepstral index above 7, then 7 for a model that does not read, then 8 for
-- one with other GRU counts than those that the opening noted.
abbrev pub SecondTests : Type 0
SecondTests =
    (share : List Float) (hearing : Hearing) (logs : List Float) (model : List ℕ) (out : ℕ)
    → Tests
    (5 refusedIf wrong ((length share, PART) ∷ (length logs, 22) ∷ (out, 480) ∷ []) ∷ 5 refusedIf ltb 7 hearing.index
    ∷ checked (counted hearing) (read_of model) ∷ [])
    share (second_half share hearing logs model out)

-- After any call 2, whoever made it, the second half uses the window of that call (request 08).
abbrev pub SameWindow : Type 0
SameWindow =
    (share spectrum : List Float) (lag window sums : ℕ)
    → let b = call2 share spectrum lag window sums in passed b.answer ≡ true
    → looked_back b.kept ≡ first_in b.written

abbrev pub OwnWindow : Type 0
OwnWindow =
    (share spectrum : List Float) (window sums : ℕ)
    → let b = call2_own share spectrum window sums in passed b.answer ≡ true
    → looked_back b.kept ≡ first_in b.written

-- A half is the calls a and b: both are done, the half leaves b's share, and this is its reply and what it
-- writes.
pub record Both (a b half : Effect Reply) (reply : Reply) (written : List Written) : Type 0 where
  pub first : passed a.answer ≡ true
  pub last : passed b.answer ≡ true
  pub answers : half.answer ≡ reply
  pub keeps : half.kept ≡ b.kept
  pub writes : half.written ≡ written

-- A half that is accepted is its two calls, one after the other, lent the spectra and the lag of its way.
abbrev pub FirstIsCalls : Type 0
FirstIsCalls =
    (share : List Float) (way : Way) (samples : List Float) (sums : ℕ)
    → let one = call1 share samples 960 in
    let two =
    call2 (remembered way one.kept) (forward_by way (first_in one.written)) (lag_by way one.kept) 960 sums in
    let half = first_half share way samples sums in
    passed half.answer ≡ true → Both one two half two.answer (drop 1 two.written)

abbrev pub SecondIsCalls : Type 0
SecondIsCalls =
    (share : List Float) (hearing : Hearing) (logs : List Float) (model : List ℕ) (out : ℕ)
    → let three = call3 share hearing (forward_by hearing.way (looked_back share)) logs model 961 in
    let four = call4 three.kept (inverse_by hearing.way (first_in three.written)) out in
    let half = second_half share hearing logs model out in
    passed half.answer ≡ true → Both three four half three.answer four.written

-- The same for way 0 (requests 04 and 08): call 2's sister, and the plain sums.
abbrev pub AskedFirst : Type 0
AskedFirst =
    (share samples : List Float) (sums : ℕ)
    → let one = call1 share samples 960 in
    let two = call2_own one.kept (forward_of (first_in one.written)) 960 sums in
    let half = first_half share Own samples sums in
    passed half.answer ≡ true → Both one two half two.answer (drop 1 two.written)

abbrev pub AskedSecond : Type 0
AskedSecond =
    (share : List Float) (hearing : Hearing) (logs : List Float) (model : List ℕ) (out : ℕ) → hearing.way ≡ Own
    → let three = call3 share hearing (forward_of (looked_back share)) logs model 961 in
    let four = call4 three.kept (inverse_of (first_in three.written)) out in
    let half = second_half share hearing logs model out in
    passed half.answer ≡ true → Both three four half three.answer four.written

-- The sister of call 2 is call 2 with the lag that is found: what holds of call 2 with any lag holds of it.
-- Assumes nothing.
use Rattle.std.specs.Prelude.{◌∷◌, ◌≡◌, Result, Ok, Err}
use Rattle.rules.proofs.Common.{ℕ, List, [], length, Float}
use native.Mathlib.Omega.{arith}
use borrow.Author.Tests.{le-ltb}
use Rattle.rules.specs.declared.refusal.Refusal.{Refusal}
use Rattle.rules.specs.declared.refusal.Refusal.TheVariants.{WrongLength}
use Rattle.rules.specs.Leaf.{Leaf}
use Rattle.rules.specs.Place.{get}
use Rattle.rules.proofs.Refusals.{fitting}
use Rattle.rules.proofs.Places.{length_get}
use Rattle.lag.specs.Lag.{own_lag}
use Rattle.lag.proofs.Ranges.{in_range_lem}
use Rattle.frame.specs.Share.{PART, input_mem}
use Rattle.frame.specs.Effect.{Effect, Worked, refusal, unless}
use Rattle.frame.specs.Reply.{◌refusedIf◌, Reply, Refused}
use Rattle.frame.specs.Frame.{wrong, done2, call2}
use Rattle.frame.proofs.Cases.{call2_by}
use Rattle.frame.proofs.Keeps.{Keeps, call2_keeps}
use Rattle.halves.specs.Laws.{SisterByFive}
use Rattle.halves.specs.Own.{call2_own}

module _ (share : List Float) where
  abbrev mem : List Float
  mem = get input_mem share

  -- the lag that the code finds, and what it does with it
  pub found : {answer : Result ℕ Refusal} {lag : ℕ} → length share ≡ PART
      → Leaf (length mem ≡ 1728) answer (Ok (own_lag mem)) (Err WrongLength) → answer ≡ Ok lag
      → lag ≡ own_lag mem
  found whole leaf e = let f = fitting leaf (length_get input_mem share (omega arith)) in cc

  pub call2_own_by : (P : Effect Reply → Type 0) → ((n : ℕ) → P (refusal (Refused n) share))
      → (spectrum : List Float) (window sums : ℕ)
      → (length share ≡ PART → P (done2 share spectrum (own_lag mem))) → P (call2_own share spectrum window sums)
  unfolding call2_own
  call2_own_by P bad spectrum window sums h = call2_by share P bad spectrum (own_lag mem) window sums h

  module _ (spectrum : List Float) (window sums : ℕ) where
    pub worked : {lag : ℕ} {r : Reply} {after : List Float} {held out : List (List Float)} → lag ≡ own_lag mem
        → Worked (call2 share spectrum lag window sums) r after held out
        → Worked (call2_own share spectrum window sums) r after held out
    unfolding call2_own
    worked e w = rw (← e) w

    -- 6 is never due
    pub by_five : call2_own share spectrum window sums
        ≡ unless (5 refusedIf wrong ((length share, PART) ∷ (length spectrum, 961) ∷ (window, 960) ∷ (sums, 22) ∷ [])
        ∷ []) share (done2 share spectrum (own_lag mem))
    unfolding call2_own call2
    by_five = simp (le-ltb 768 (own_lag mem) (in_range_lem mem).1)

    pub call2_own_keeps : Keeps share (call2_own share spectrum window sums)
    unfolding call2_own
    call2_own_keeps = call2_keeps share spectrum (own_lag mem) window sums

pub sister_by_five : SisterByFive
sister_by_five share spectrum window sums = by_five share spectrum window sums

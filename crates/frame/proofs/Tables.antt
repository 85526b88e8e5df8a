-- Laws of a table of refusals whose rows are replies. Assumes nothing.
use Rattle.std.specs.Prelude.{◌∷◌, ◌≡◌}
use Rattle.rules.proofs.Common.{ℕ, Bool, true, false, cond, true≢false, false≢true, List, [], refl, sym, ◌∙◌}
use Rattle.rules.proofs.Common.{Float}
use Rattle.frame.specs.Reply.{Reply, Done, Refused, passed, ◌refusedIf◌, first_refusal}
use Rattle.frame.specs.Effect.{Effect, refusal, unless}

-- no row refuses
abbrev pub Clear : List Reply → Type 0
Clear [] = Unit
Clear (row ∷ rows) = (passed row ≡ true) × Clear rows

pub clear : (rows : List Reply) → Clear rows → first_refusal rows ≡ Done
clear [] h = refl
clear (row ∷ rows) h = rw h.0 (clear rows h.1)

-- where the first is no refusal, no row refuses
pub cleared : (rows : List Reply) → passed (first_refusal rows) ≡ true → Clear rows
cleared [] h = tt
cleared (row ∷ rows) h = go (cleared rows) (passed row) refl h
  where
    go : (passed (first_refusal rows) ≡ true → Clear rows) → (t : Bool) → passed row ≡ t
        → passed (cond t (first_refusal rows) row) ≡ true → Clear (row ∷ rows)
    go more true e k = (e, more k)
    go more false e k = absurd (false≢true (sym e ∙ k))

-- a row of a number and a test
pub not_when : (n : ℕ) (t : Bool) → passed (n refusedIf t) ≡ true → t ≡ false
not_when n true h = absurd (false≢true h)
not_when n false h = refl

module _ (P : Reply → Type 0) where
  -- of each row that refuses
  abbrev pub Each : List Reply → Type 0
  Each [] = Unit
  Each (row ∷ rows) = (passed row ≡ false → P row) × Each rows

  pub by_number : ((n : ℕ) → P (Refused n)) → (n : ℕ) (t : Bool) → passed (n refusedIf t) ≡ false → P (n refusedIf t)
  by_number bad n true h = bad n
  by_number bad n false h = absurd (true≢false h)

  pub first_refusal_lem : (rows : List Reply) → Each rows → passed (first_refusal rows) ≡ false → P (first_refusal rows)
  first_refusal_lem [] bad h = absurd (true≢false h)
  first_refusal_lem (row ∷ rows) bad h = go (first_refusal_lem rows bad.1) (passed row) refl h
    where
      go : (passed (first_refusal rows) ≡ false → P (first_refusal rows)) → (t : Bool) → passed row ≡ t
          → passed (cond t (first_refusal rows) row) ≡ false → P (cond t (first_refusal rows) row)
      go more true e k = more k
      go more false e k = bad.0 e

  -- what holds of each row's refusal, and of Done where no row refuses, holds of the first
  pub by_each : (rows : List Reply) → Each rows → (Clear rows → P Done) → P (first_refusal rows)
  by_each rows bad good = go (passed (first_refusal rows)) refl
    where
      go : (t : Bool) → passed (first_refusal rows) ≡ t → P (first_refusal rows)
      go true e = rw (clear rows (cleared rows e)) (good (cleared rows e))
      go false e = first_refusal_lem rows bad e

-- the same of a call
module _ (share : List Float) (f : Effect Reply) where
  pub by_rows : (P : Effect Reply → Type 0) (rows : List Reply) → Each (λ reply. P (refusal reply share)) rows
      → (Clear rows → P f)
      → P (unless rows share f)
  by_rows P rows bad good = go (passed (first_refusal rows)) refl
    where
      go : (t : Bool) → passed (first_refusal rows) ≡ t → P (cond t f (refusal (first_refusal rows) share))
      go true e = good (cleared rows e)
      go false e = first_refusal_lem (λ reply. P (refusal reply share)) rows bad e

  -- of a call that is accepted
  pub by_accepted : (Q : Effect Reply → Type 0) (rows : List Reply) → (Clear rows → passed f.answer ≡ true → Q f)
      → passed (unless rows share f).answer ≡ true → Q (unless rows share f)
  by_accepted Q rows h = go (passed (first_refusal rows)) refl
    where
      go : (t : Bool) → passed (first_refusal rows) ≡ t
          → passed (cond t f (refusal (first_refusal rows) share)).answer ≡ true
          → Q (cond t f (refusal (first_refusal rows) share))
      go true e p = h (cleared rows e) p
      go false e p = absurd (false≢true (sym e ∙ p))

-- What a call can give: what holds of every refusal, and of what is right where nothing is refused, holds of the call.
-- Assumes nothing.
use Rattle.std.specs.Prelude.{◌≤◌, ◌∷◌, ◌≡◌}
use Rattle.rules.proofs.Common.{ℕ, Bool, true, false, cond, not, List, [], refl, sym, ltb, length, Float}
use borrow.Author.Tests.{ltb-false}
use Rattle.rules.specs.Place.{get}
use Rattle.rules.proofs.Refusals.{Right, right}
use Rattle.samples.specs.Samples.{good}
use Rattle.model.specs.Model.{read_of}
use Rattle.model.specs.declared.Model.{Model}
use Rattle.model.specs.Reading.{Reading, Good, Refused as Unread}
use Rattle.features.specs.Silence.{energy, is_silent}
use Rattle.frame.specs.declared.Hearing.{Hearing}
use Rattle.frame.specs.Reply.{Refused, Misread, Reply, passed, ◌refusedIf◌}
use Rattle.frame.specs.Share.{PART, kept_ex}
use Rattle.frame.specs.Heard.{spoken}
use Rattle.frame.specs.Effect.{Effect, refusal, unless}
use Rattle.frame.specs.Frame.{wrong, done1, call1, done2, call2, silent, heard, done3, counted, modelled, call3}
use Rattle.frame.specs.Frame.{done4, call4}
use Rattle.frame.proofs.Tables.{Clear, Each, not_when, by_number, by_rows}

-- ---- the calls, for a claim P that every refusal meets

module _ (share : List Float) (P : Effect Reply → Type 0) (bad : (n : ℕ) → P (refusal (Refused n) share)) where
  -- a row of a number and a test
  pub by_its_number : (n : ℕ) (t : Bool) → passed (n refusedIf t) ≡ false → P (refusal (n refusedIf t) share)
  by_its_number = by_number (λ reply. P (refusal reply share)) bad

  pub by_table : (ps : List (ℕ × ℕ)) (rows : List Reply) (f : Effect Reply)
      → Each (λ reply. P (refusal reply share)) rows
      → (Right ps → Clear rows → P f) → P (unless (5 refusedIf wrong ps ∷ rows) share f)
  by_table ps rows f each h =
      by_rows share f P (5 refusedIf wrong ps ∷ rows) (by_its_number 5 (wrong ps), each)
      (λ c. h (right ps (not_when 5 (wrong ps) c.0)) c.1)

  pub call1_by : (samples : List Float) (window : ℕ)
      → (length share ≡ PART → length samples ≡ 480 → P (done1 share samples))
      → P (call1 share samples window)
  unfolding call1
  call1_by samples window h =
      by_table ((length share, PART) ∷ (length samples, 480) ∷ (window, 960) ∷ []) (9 refusedIf not (good samples) ∷ [])
      (done1 share samples)
      (by_its_number 9 (not (good samples)), tt) (λ r _. h r.0 r.1.0)

  pub call2_by : (spectrum : List Float) (lag window sums : ℕ) → (length share ≡ PART → P (done2 share spectrum lag))
      → P (call2 share spectrum lag window sums)
  unfolding call2
  call2_by spectrum lag window sums h =
      by_table ((length share, PART) ∷ (length spectrum, 961) ∷ (window, 960) ∷ (sums, 22) ∷ [])
      (6 refusedIf ltb 768 lag ∷ []) (done2 share spectrum lag)
      (by_its_number 6 (ltb 768 lag), tt) (λ r _. h r.0)

  -- a model that is refused comes with what the reader says of it
  pub call3_by : (hearing : Hearing) (spectrum logs : List Float) (model : List ℕ) (out : ℕ)
      → ((n l : ℕ) → Unread n l ≡ read_of model → P (refusal (Misread n l) share))
      → P (silent share)
      → ((e : Float) (m : Model) → read_of model ≡ Good m → length share ≡ PART → hearing.index ≤ 7
      → P (heard e (spoken share hearing.index spectrum logs model m)))
      → P (call3 share hearing spectrum logs model out)
  unfolding call3 done3
  call3_by hearing spectrum logs model out misread still h =
      by_table ((length share, PART) ∷ (length spectrum, 961) ∷ (length logs, 22) ∷ (out, 961) ∷ [])
      (5 refusedIf ltb 7 hearing.index ∷ [])
      (modelled (counted hearing) (read_of model) share (done3 share hearing.index spectrum logs model))
      (by_its_number 5 (ltb 7 hearing.index), tt)
      (λ r c. by_model r.0 (ltb-false 7 hearing.index (not_when 5 (ltb 7 hearing.index) c.0))
      (read_of model) refl)
    where
      by_sound : (m : Model) → read_of model ≡ Good m → length share ≡ PART → hearing.index ≤ 7
          → (t : Bool)
          → P (cond t (silent share)
          (heard (energy (get kept_ex share)) (spoken share hearing.index spectrum logs model m)))
      by_sound m e l i true = still
      by_sound m e l i false = h (energy (get kept_ex share)) m e l i

      by_count : (t : Bool) (f : Effect Reply) → P f → P (cond t f (refusal (Refused 8) share))
      by_count true f k = k
      by_count false f k = bad 8

      by_model : length share ≡ PART → hearing.index ≤ 7 → (r : Reading) → read_of model ≡ r
          → P (modelled (counted hearing) r share (done3 share hearing.index spectrum logs model))
      by_model l i (Unread n k) e = misread n k (sym e)
      by_model l i (Good m) e =
          by_count (counted hearing m) (done3 share hearing.index spectrum logs model m)
          (by_sound m e l i (is_silent (energy (get kept_ex share))))

  pub call4_by : (inverse : List Float) (out : ℕ) → (length share ≡ PART → P (done4 share inverse))
      → P (call4 share inverse out)
  unfolding call4
  call4_by inverse out h =
      by_table ((length share, PART) ∷ (length inverse, 960) ∷ (out, 480) ∷ []) [] (done4 share inverse) tt
      (λ r _. h r.0)

-- What a call gives where it is refused nothing; and call 3, where `out` has no place. Assumes nothing.
use Rattle.std.specs.Prelude.{◌≤◌, ◌||◌, ◌≡◌}
use Rattle.rules.proofs.Common.{ℕ, Bool, true, false, cond, true≢false, false≢true, List, refl, sym, ap}
use Rattle.rules.proofs.Common.{◌∙◌, length, Float}
use borrow.Author.Tests.{eq-eqb, le-ltb}
use Rattle.samples.specs.Samples.{good}
use Rattle.model.specs.Model.{read_of}
use Rattle.model.specs.declared.Model.{Model}
use Rattle.model.specs.Reading.{Reading, Good, Refused as Unread}
use Rattle.frame.specs.declared.Hearing.{Hearing}
use Rattle.frame.specs.Reply.{Reply, Done, Refused, passed}
use Rattle.frame.specs.Share.{PART}
use Rattle.frame.specs.Effect.{Effect, Worked, refusal}
use Rattle.frame.specs.Frame.{done1, call1, done2, call2, counted, modelled, done3, call3, done4, call4, checked}

module _ (share : List Float) (whole : length share ≡ PART) where
  pub call1_done : (samples : List Float) (window : ℕ) → length samples ≡ 480 → window ≡ 960 → good samples ≡ true
      → call1 share samples window ≡ done1 share samples
  unfolding call1
  call1_done samples window a b g = simp (eq-eqb _ _ whole, eq-eqb _ _ a, eq-eqb _ _ b, g)

  pub call2_done : (spectrum : List Float) (lag window sums : ℕ) → length spectrum ≡ 961 → window ≡ 960 → sums ≡ 22
      → lag ≤ 768
      → call2 share spectrum lag window sums ≡ done2 share spectrum lag
  unfolding call2
  call2_done spectrum lag window sums a b d h =
      simp (eq-eqb _ _ whole, eq-eqb _ _ a, eq-eqb _ _ b, eq-eqb _ _ d, le-ltb 768 lag h)

  pub call3_done : (hearing : Hearing) (spectrum logs : List Float) (model : List ℕ) (out : ℕ)
      → length spectrum ≡ 961 → length logs ≡ 22 → out ≡ 961 → hearing.index ≤ 7
      → call3 share hearing spectrum logs model out
      ≡ modelled (counted hearing) (read_of model) share (done3 share hearing.index spectrum logs model)
  unfolding call3
  call3_done hearing spectrum logs model out a b d h =
      simp (eq-eqb _ _ whole, eq-eqb _ _ a, eq-eqb _ _ b, eq-eqb _ _ d, le-ltb 7 hearing.index h)

  pub call4_done : (inverse : List Float) (out : ℕ) → length inverse ≡ 960 → out ≡ 480
      → call4 share inverse out ≡ done4 share inverse
  unfolding call4
  call4_done inverse out a b = simp (eq-eqb _ _ whole, eq-eqb _ _ a, eq-eqb _ _ b)

pub or-true : (a : Bool) → (a || true) ≡ true
or-true true = refl
or-true false = refl

pub call3_no_out : (share : List Float) (hearing : Hearing) (spectrum logs : List Float) (model : List ℕ)
    → call3 share hearing spectrum logs model 0 ≡ refusal (Refused 5) share
unfolding call3
call3_no_out share hearing spectrum logs model = simp or-true

-- ---- what the model decides

module _ (same : Model → Bool) (share : List Float) (held : List (List Float)) (f : Model → Effect Reply) where
  -- it is refused
  pub modelled_no : (r : Reading) {reply : Reply} → reply ≡ checked same r → passed reply ≡ false
      → Worked (modelled same r share f) reply share held held
  unfolding checked
  modelled_no (Unread n l) e p = rw e (record { answers = refl; keeps = refl; writes = refl })
  modelled_no (Good m) {reply} e p = go (same m) e
    where
      go : (t : Bool) → reply ≡ cond t Done (Refused 8)
          → Worked (cond t (f m) (refusal (Refused 8) share)) reply share held held
      go true h = absurd (true≢false (sym (ap passed h) ∙ p))
      go false h = rw h (record { answers = refl; keeps = refl; writes = refl })

  -- it reads, and has the counts
  pub modelled_yes : (r : Reading) {reply answer : Reply} {after : List Float} {out : List (List Float)}
      → reply ≡ checked same r → passed reply ≡ true
      → ((m : Model) → r ≡ Good m → Worked (f m) answer after held out)
      → Worked (modelled same r share f) answer after held out
  unfolding checked
  modelled_yes (Unread n l) e p h = absurd (false≢true (sym (ap passed e) ∙ p))
  modelled_yes (Good m) {reply} {answer} {after} {out} e p h = go (same m) e
    where
      go : (t : Bool) → reply ≡ cond t Done (Refused 8)
          → Worked (cond t (f m) (refusal (Refused 8) share)) answer after held out
      go true d = h m refl
      go false d = absurd (false≢true (sym (ap passed d) ∙ p))

-- A half tests all refusals of its two calls before it does anything; and what it gives if none of them holds.
--     first_done, three_passes        the first half, and call 3 of the second, where nothing is refused
--     first_tests, second_tests       what is claimed
-- Assumes nothing.
use Rattle.std.specs.Prelude.{◌≤◌, ◌∷◌, ◌≡◌}
use Rattle.rules.proofs.Common.{ℕ, Bool, true, false, cond, not, true≢false, false≢true, List, [], refl}
use Rattle.rules.proofs.Common.{sym, ap, ◌∙◌, ltb, length, Float}
use borrow.Author.Tests.{eq-eqb, ltb-false}
use Rattle.rules.specs.Place.{get}
use Rattle.rules.specs.Refusals.{wrong}
use Rattle.rules.proofs.Refusals.{Right, right}
use Rattle.samples.specs.Samples.{good}
use Rattle.model.specs.Model.{read_of}
use Rattle.model.specs.declared.Model.{Model}
use Rattle.model.specs.Reading.{Reading, Good, Refused as Unread}
use Rattle.features.specs.Silence.{energy, is_silent}
use Rattle.frame.specs.declared.Hearing.{Hearing}
use Rattle.frame.specs.Reply.{Reply, Done, Refused, passed, ◌refusedIf◌}
use Rattle.frame.specs.declared.Way.{Way}
use Rattle.frame.specs.Written.{first_in}
use Rattle.frame.specs.Share.{PART, kept_ex}
use Rattle.frame.specs.Heard.{Spoken, spoken}
use Rattle.frame.specs.Effect.{Effect, refusal}
use Rattle.frame.specs.Frame.{silent, heard, done1, call1, counted, checked, done3, modelled, call3}
use Rattle.frame.proofs.Done.{call1_done, call2_done, call3_done}
use Rattle.halves.specs.Ways.{lag_by, remembered, forward_by}
use Rattle.halves.specs.Halves.{onward, first_half, looked_back, synthesised, second_half}
use Rattle.halves.specs.Laws.{Tests, FirstTests, SecondTests}
use Rattle.halves.proofs.Cases.{done_first, whole_after_1}
use Rattle.halves.proofs.EitherWay.{lag_fits, length_forward, whole_remembered}
use Rattle.halves.proofs.Onward.{first_half_done, second_half_done}

-- ---- the first half

module _ (share : List Float) (way : Way) (samples : List Float) (sums : ℕ) where
  abbrev sizes : List (ℕ × ℕ)
  sizes = (length share, PART) ∷ (length samples, 480) ∷ (sums, 22) ∷ []

  -- where nothing is refused, both calls are done
  pub first_done : length share ≡ PART → length samples ≡ 480 → sums ≡ 22 → good samples ≡ true
      → first_half share way samples sums ≡ done_first share way samples
  first_done whole l s g =
      let a = done1 share samples in
      let window = first_in a.written in
      let noted = whole_remembered a.kept way (whole_after_1 share samples whole l) in
      first_half_done share whole way samples sums l s
      ∙ rw (
        call1_done share whole samples 960 l refl g,
        call2_done (remembered way a.kept) noted (forward_by way window) (lag_by way a.kept) 960 sums
            (length_forward way window) refl s (lag_fits way a.kept),
      )

  misfit : wrong sizes ≡ true → first_half share way samples sums ≡ refusal (Refused 5) share
  unfolding first_half
  misfit e = rw e

  call1_bad : length share ≡ PART → length samples ≡ 480 → good samples ≡ false
      → call1 share samples 960 ≡ refusal (Refused 9) share
  unfolding call1
  call1_bad whole l g = simp (eq-eqb _ _ whole, eq-eqb _ _ l, g)

  bad : Right sizes → good samples ≡ false → first_half share way samples sums ≡ refusal (Refused 9) share
  bad r g = first_half_done share r.0 way samples sums r.1.0 r.1.1.0 ∙ rw (call1_bad r.0 r.1.0 g)

  abbrev first_rows : Bool → Bool → List Reply
  first_rows w g = 5 refusedIf w ∷ 9 refusedIf not g ∷ []

  first_tested : Tests (first_rows (wrong sizes) (good samples)) share (first_half share way samples sums)
  first_tested = go (wrong sizes) (good samples) refl refl
    where
      go : (w g : Bool) → wrong sizes ≡ w → good samples ≡ g
          → Tests (first_rows w g) share (first_half share way samples sums)
      go true g e d = record { refuses = λ _. misfit e; does = λ p. absurd (false≢true p) }
      go false false e d = record { refuses = λ _. bad (right sizes e) d; does = λ p. absurd (false≢true p) }
      go false true e d =
          let r = right sizes e in
          record {
            refuses = λ p. absurd (true≢false p);
            does = λ _. ap (λ (f : Effect Reply). passed f.answer) (first_done r.0 r.1.0 r.1.1.0 d);
          }

pub first_tests : FirstTests
first_tests = first_tested

-- ---- the second half

module _ (share : List Float) (hearing : Hearing) (logs : List Float) (model : List ℕ) where
  abbrev spectrum : List Float
  spectrum = forward_by hearing.way (looked_back share)

  abbrev three : Model → Effect Reply
  three m = done3 share hearing.index spectrum logs model m

  abbrev counts : Model → Bool
  counts = counted hearing

  -- a frame is silent or heard
  sounds : (m : Model) → passed (three m).answer ≡ true
  unfolding done3
  sounds m =
      go (is_silent (energy (get kept_ex share))) (energy (get kept_ex share))
      (spoken share hearing.index spectrum logs model m)
    where
      go : (t : Bool) (e : Float) (s : Spoken) → passed (cond t (silent share) (heard e s)).answer ≡ true
      go true e s = refl
      go false e s = refl

  by_reading_lem : (r : Reading) → passed (checked counts r) ≡ true
      → passed (modelled counts r share three).answer ≡ true
  unfolding checked
  by_reading_lem (Unread n k) e = e
  by_reading_lem (Good m) e = go (counts m) e
    where
      go : (t : Bool) → passed (cond t Done (Refused 8)) ≡ true
          → passed (cond t (three m) (refusal (Refused 8) share)).answer ≡ true
      go true e = sounds m
      go false e = e

  module _ (whole : length share ≡ PART) (l : length logs ≡ 22) (i : hearing.index ≤ 7) where
    three_is : call3 share hearing spectrum logs model 961 ≡ modelled counts (read_of model) share three
    three_is =
        call3_done share whole hearing spectrum logs model 961
        (length_forward hearing.way (looked_back share)) l refl i

    pub three_passes : passed (checked counts (read_of model)) ≡ true
        → passed (call3 share hearing spectrum logs model 961).answer ≡ true
    three_passes right = rw three_is (by_reading_lem (read_of model) right)

  module _ (out : ℕ) where
    abbrev places : List (ℕ × ℕ)
    places = (length share, PART) ∷ (length logs, 22) ∷ (out, 480) ∷ []

    abbrev second : Effect Reply → Effect Reply
    second a = synthesised a.answer a.kept hearing.way (first_in a.written) out

    misplaced : wrong places ≡ true → second_half share hearing logs model out ≡ refusal (Refused 5) share
    unfolding second_half
    misplaced e = rw e

    beyond : wrong places ≡ false → ltb 7 hearing.index ≡ true
        → second_half share hearing logs model out ≡ refusal (Refused 5) share
    unfolding second_half
    beyond e d = rw (e, d)

    -- a model that is refused
    unread : (r : Reading) → passed (checked counts r) ≡ false
        → onward (modelled counts r share three) second ≡ refusal (checked counts r) share
    unfolding checked
    unread (Unread n k) e = refl
    unread (Good m) e = go (counts m) e
      where
        go : (t : Bool) → passed (cond t Done (Refused 8)) ≡ false
            → onward (cond t (three m) (refusal (Refused 8) share)) second ≡ refusal (cond t Done (Refused 8)) share
        go true e = absurd (true≢false e)
        go false e = refl

    abbrev second_rows : Bool → Bool → Reply → List Reply
    second_rows w i reply = 5 refusedIf w ∷ 5 refusedIf i ∷ reply ∷ []

    -- with right lengths and a right index, the model decides
    decided : (r : Right places) → hearing.index ≤ 7 → (t : Bool) → passed (checked counts (read_of model)) ≡ t
        → Tests (second_rows false false (checked counts (read_of model))) share
        (second_half share hearing logs model out)
    decided r i t e = go t e
      where
        is : second_half share hearing logs model out ≡ onward (call3 share hearing spectrum logs model 961) second
        is = second_half_done share r.0 hearing logs model out r.1.0 r.1.1.0 i refl

        go : (t : Bool) → passed (checked counts (read_of model)) ≡ t
            → Tests (second_rows false false (checked counts (read_of model))) share
            (second_half share hearing logs model out)
        go true e =
            let passes = three_passes r.0 r.1.0 i e in
            record { refuses = λ p. absurd (true≢false (sym (rw e) ∙ p)); does = λ _. rw (is, passes) passes }
        go false e =
            record {
              refuses = λ _. rw e (is ∙ rw (three_is r.0 r.1.0 i) (unread (read_of model) e));
              does = λ p. absurd (false≢true (sym e ∙ rw e at p));
            }

    second_tested : Tests (second_rows (wrong places) (ltb 7 hearing.index) (checked counts (read_of model))) share
        (second_half share hearing logs model out)
    second_tested = go (wrong places) (ltb 7 hearing.index) refl refl
      where
        go : (w i : Bool) → wrong places ≡ w → ltb 7 hearing.index ≡ i
            → Tests (second_rows w i (checked counts (read_of model))) share (second_half share hearing logs model out)
        go true i e d = record { refuses = λ _. misplaced e; does = λ p. absurd (false≢true p) }
        go false true e d = record { refuses = λ _. beyond e d; does = λ p. absurd (false≢true p) }
        go false false e d =
            decided (right places e) (ltb-false 7 hearing.index d) (passed (checked counts (read_of model))) refl

pub second_tests : SecondTests
second_tests = second_tested

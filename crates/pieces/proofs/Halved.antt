-- The two halves of a frame: their lengths; and that they are refused nothing with right lengths, good samples and a
-- model that passes.
--     first_length, second_length     a half keeps the length of its part
--     first_passes, second_passes     a half, refused nothing
-- Assumes nothing.
use Rattle.std.specs.Prelude.{◌≤◌, ◌∷◌, ◌≡◌}
use Rattle.rules.proofs.Common.{ℕ, Bool, true, false, cond, false≢true, List, [], refl, sym, ap, ◌∙◌}
use Rattle.rules.proofs.Common.{length, Float}
use Rattle.rules.specs.Place.{get}
use Rattle.frame.specs.Written.{all, first_in}
use Rattle.rules.proofs.Lists.{length_tab}
use Rattle.samples.specs.Samples.{good}
use Rattle.model.specs.Model.{read_of}
use Rattle.model.specs.declared.Model.{Model}
use Rattle.model.specs.Reading.{Reading, Good, Refused as Unread}
use Rattle.features.specs.Silence.{energy, is_silent}
use Rattle.frame.specs.declared.Hearing.{Hearing}
use Rattle.frame.specs.Reply.{Reply, Done, Refused, passed}
use Rattle.frame.specs.declared.Way.{Way}
use Rattle.frame.specs.Share.{PART, kept_ex}
use Rattle.frame.specs.Heard.{Spoken, spoken}
use Rattle.frame.specs.Effect.{Effect, refusal}
use Rattle.frame.specs.Frame.{plus_hundredth, silent, heard, overlapped, done1, counted, done3, modelled, call3}
use Rattle.frame.specs.Frame.{checked}
use Rattle.frame.proofs.Done.{call1_done, call2_done, call3_done}
use Rattle.halves.specs.Ways.{lag_by, remembered, forward_by}
use Rattle.halves.specs.Halves.{looked_back, first_half, second_half}
use Rattle.halves.proofs.Cases.{done_first, whole_after_1, first_half_by, second_half_by}
use Rattle.halves.proofs.Kept.{first_half_keeps, second_half_keeps}
use Rattle.halves.proofs.Onward.{first_half_done, second_half_done}
use Rattle.halves.proofs.EitherWay.{lag_fits, length_forward, whole_remembered}

-- a half that is refused nothing leaves a part of a share, and one buffer of n numbers
pub record Halved (n : ℕ) (f : Effect Reply) : Type 0 where
  pub passes : passed f.answer ≡ true
  pub part : length f.kept ≡ PART
  pub writes : f.written ≡ all (first_in f.written) ∷ []
  pub fills : length (first_in f.written) ≡ n

abbrev Halves : ℕ → Effect Reply → Type 0
Halves n f = length f.kept ≡ PART → passed f.answer ≡ true → Halved n f

refuses : {n : ℕ} {reply : Reply} {share : List Float} → passed reply ≡ false → Halves n (refusal reply share)
refuses e k p = absurd (false≢true (sym e ∙ p))

-- ---- the first half

module _ (part : List Float) (way : Way) (samples : List Float) (sums : ℕ) where
  pub first_length : length part ≡ PART → length (first_half part way samples sums).kept ≡ PART
  first_length whole = (first_half_keeps part way samples sums).size ∙ whole

  first_halves : Halves 22 (first_half part way samples sums)
  unfolding plus_hundredth
  first_halves =
      first_half_by part (Halves 22) (λ n. refuses refl) way samples sums
      (λ _ _ k e. record { passes = e; part = k; writes = refl; fills = length_tab 22 _ })

module _ (part : List Float) (way : Way) (samples : List Float) (whole : length part ≡ PART) (l : length samples ≡ 480)
    (g : good samples ≡ true) where
  first_done : first_half part way samples 22 ≡ done_first part way samples
  first_done =
      let a = done1 part samples in
      let window = first_in a.written in
      let noted = whole_remembered a.kept way (whole_after_1 part samples whole l) in
      first_half_done part whole way samples 22 l refl
      ∙ rw (
        call1_done part whole samples 960 l refl g,
        call2_done (remembered way a.kept) noted (forward_by way window) (lag_by way a.kept) 960 22
            (length_forward way window) refl refl (lag_fits way a.kept),
      )

  pub first_passes : Halved 22 (first_half part way samples 22)
  first_passes =
      first_halves part way samples 22 (first_length part way samples 22 whole)
      (ap (λ (f : Effect Reply). passed f.answer) first_done)

-- ---- the second half

module _ (part : List Float) (hearing : Hearing) (logs : List Float) (model : List ℕ) where
  module _ (out : ℕ) where
    pub second_length : length part ≡ PART → length (second_half part hearing logs model out).kept ≡ PART
    second_length whole = (second_half_keeps part hearing logs model out).size ∙ whole

    second_halves : Halves 480 (second_half part hearing logs model out)
    unfolding overlapped
    second_halves =
        second_half_by part (Halves 480) (λ n. refuses refl) hearing logs model out (λ n l _. refuses refl)
        (λ _ k e. record { passes = e; part = k; writes = refl; fills = length_tab 480 _ })
        (λ _ _ _ _ _ k e. record { passes = e; part = k; writes = refl; fills = length_tab 480 _ })

  module _ (whole : length part ≡ PART) (l : length logs ≡ 22) (i : hearing.index ≤ 7)
      (right : passed (checked (counted hearing) (read_of model)) ≡ true) where
    abbrev spectrum : List Float
    spectrum = forward_by hearing.way (looked_back part)

    abbrev three : Model → Effect Reply
    three m = done3 part hearing.index spectrum logs model m

    -- a frame is silent or heard
    sounds : (m : Model) → passed (three m).answer ≡ true
    unfolding done3
    sounds m =
        go (is_silent (energy (get kept_ex part))) (energy (get kept_ex part))
        (spoken part hearing.index spectrum logs model m)
      where
        go : (t : Bool) (e : Float) (s : Spoken) → passed (cond t (silent part) (heard e s)).answer ≡ true
        go true e s = refl
        go false e s = refl

    by_reading_lem : (r : Reading) → passed (checked (counted hearing) r) ≡ true
        → passed (modelled (counted hearing) r part three).answer ≡ true
    unfolding checked
    by_reading_lem (Unread n k) e = e
    by_reading_lem (Good m) e = go (counted hearing m) e
      where
        go : (t : Bool) → passed (cond t Done (Refused 8)) ≡ true
            → passed (cond t (three m) (refusal (Refused 8) part)).answer ≡ true
        go true e = sounds m
        go false e = e

    three_passes : passed (call3 part hearing spectrum logs model 961).answer ≡ true
    three_passes =
        rw (call3_done part whole hearing spectrum logs model 961
        (length_forward hearing.way (looked_back part)) l refl i) (by_reading_lem (read_of model) right)

    pub second_passes : Halved 480 (second_half part hearing logs model 480)
    second_passes =
        second_halves 480 (second_length 480 whole)
        (rw (second_half_done part whole hearing logs model 480 l refl i refl, three_passes) three_passes)

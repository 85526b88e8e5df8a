-- The law of request 08 over one share: accepted, a half is its two calls, one after the other, with the spectra and
-- the lag of its way lent.
-- Assumes nothing.
use Rattle.std.specs.Prelude.{◌∷◌, ◌≡◌}
use Rattle.rules.proofs.Common.{ℕ, Bool, true, false, cond, false≢true, List, [], refl, sym, ap, ◌∙◌, ltb}
use Rattle.rules.proofs.Common.{length, drop, Float}
use Rattle.rules.specs.Refusals.{wrong}
use Rattle.frame.specs.Written.{first_in}
use Rattle.rules.proofs.Refusals.{Right, right}
use Rattle.transforms.specs.Transform.{forward_of, inverse_of}
use Rattle.frame.specs.declared.Hearing.{Hearing}
use Rattle.frame.specs.Reply.{Reply, passed, ◌refusedIf◌}
use Rattle.frame.specs.declared.Way.{Way}
use Rattle.frame.specs.declared.Way.TheVariants.{Own}
use Rattle.frame.specs.Effect.{Effect}
use Rattle.frame.specs.Share.{PART}
use Rattle.frame.specs.Frame.{call1, call2, call3, call4}
use Rattle.frame.proofs.Done.{call4_done}
use Rattle.frame.proofs.Keeps.{call3_keeps}
use Rattle.frame.proofs.Tables.{not_when, by_accepted}
use Rattle.halves.specs.Own.{call2_own}
use Rattle.halves.specs.Ways.{lag_by, remembered, forward_by, inverse_by}
use Rattle.halves.specs.Laws.{Both, FirstIsCalls, SecondIsCalls, AskedFirst, AskedSecond}
use Rattle.halves.specs.Halves.{onward, analysed, first_half, looked_back, synthesised, second_half}
use Rattle.halves.proofs.EitherWay.{length_inverse}

module _ (share : List Float) where
  module _ (way : Way) (samples : List Float) (sums : ℕ) where
    abbrev one : Effect Reply
    one = call1 share samples 960

    abbrev two : Effect Reply
    two = call2 (remembered way one.kept) (forward_by way (first_in one.written)) (lag_by way one.kept) 960 sums

    pub first_half_is : passed (first_half share way samples sums).answer ≡ true
        → Both one two (first_half share way samples sums) two.answer (drop 1 two.written)
    unfolding first_half
    first_half_is =
        by_accepted share (onward one second) Claim (5 refusedIf wrong lengths ∷ [])
        (λ _. go (passed one.answer) refl)
      where
        lengths : List (ℕ × ℕ)
        lengths = (length share, PART) ∷ (length samples, 480) ∷ (sums, 22) ∷ []

        second : Effect Reply → Effect Reply
        second a = analysed a.kept way (first_in a.written) sums

        Claim : Effect Reply → Type 0
        Claim f = Both one two f two.answer (drop 1 two.written)

        go : (t : Bool) → passed one.answer ≡ t → passed (cond t (second one) one).answer ≡ true
            → Claim (cond t (second one) one)
        go true e p = record { first = e; last = p; answers = refl; keeps = refl; writes = refl }
        go false e p = absurd (false≢true (sym e ∙ p))

  module _ (hearing : Hearing) (logs : List Float) (model : List ℕ) (out : ℕ) where
    abbrev three : Effect Reply
    three = call3 share hearing (forward_by hearing.way (looked_back share)) logs model 961

    abbrev four : Effect Reply
    four = call4 three.kept (inverse_by hearing.way (first_in three.written)) out

    pub second_half_is : passed (second_half share hearing logs model out).answer ≡ true
        → Both three four (second_half share hearing logs model out) three.answer four.written
    unfolding second_half
    second_half_is =
        by_accepted share (onward three second) Claim
        (5 refusedIf wrong lengths ∷ 5 refusedIf ltb 7 hearing.index ∷ [])
        (λ c. go (passed three.answer) refl (right lengths (not_when 5 (wrong lengths) c.0)))
      where
        lengths : List (ℕ × ℕ)
        lengths = (length share, PART) ∷ (length logs, 22) ∷ (out, 480) ∷ []

        second : Effect Reply → Effect Reply
        second a = synthesised a.answer a.kept hearing.way (first_in a.written) out

        Claim : Effect Reply → Type 0
        Claim f = Both three four f three.answer four.written

        go : (t : Bool) → passed three.answer ≡ t → Right lengths
            → passed (cond t (second three) three).answer ≡ true → Claim (cond t (second three) three)
        go true e r p =
            let whole =
            (call3_keeps share hearing (forward_by hearing.way (looked_back share)) logs model 961).size ∙ r.0 in
            let spectrum = first_in three.written in
            let done = call4_done three.kept whole (inverse_by hearing.way spectrum) out
            (length_inverse hearing.way spectrum) r.1.1.0 in
            record {
              first = e;
              last = ap (λ (f : Effect Reply). passed f.answer) done;
              answers = refl;
              keeps = refl;
              writes = refl;
            }
        go false e r p = absurd (false≢true (sym e ∙ p))

pub first_is_calls : FirstIsCalls
first_is_calls = first_half_is

pub second_is_calls : SecondIsCalls
second_is_calls = second_half_is

-- ---- the way that requests 04 and 08 ask

pub asked_first : AskedFirst
unfolding call2_own lag_by remembered forward_by
asked_first share samples sums = first_half_is share Own samples sums

plain_forward_lem : {way : Way} → way ≡ Own → (samples : List Float) → forward_by way samples ≡ forward_of samples
unfolding forward_by
plain_forward_lem e samples = rw e

plain_inverse_lem : {way : Way} → way ≡ Own → (spectrum : List Float) → inverse_by way spectrum ≡ inverse_of spectrum
unfolding inverse_by
plain_inverse_lem e spectrum = rw e

pub asked_second : AskedSecond
asked_second share hearing logs model out e =
    let three = call3 share hearing (forward_of (looked_back share)) logs model 961 in
    rw (plain_forward_lem e (looked_back share), plain_inverse_lem e (first_in three.written)) at
    (second_half_is share hearing logs model out)

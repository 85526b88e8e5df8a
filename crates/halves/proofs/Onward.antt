-- A second call behind a first: what the code knows of both is what the half gives. Assumes nothing.
use Rattle.std.specs.Prelude.{◌≤◌, ◌∷◌, ◌≡◌}
use Rattle.rules.proofs.Common.{ℕ, true, false, true≢false, false≢true, List, [], refl, sym, ap, ◌∙◌}
use Rattle.rules.proofs.Common.{length, get_or, drop, Float}
use borrow.Author.Tests.{eq-eqb, le-ltb}
use Rattle.frame.specs.declared.Hearing.{Hearing}
use Rattle.frame.specs.Reply.{Reply, Refused, Misread, passed}
use Rattle.frame.specs.declared.Way.{Way}
use Rattle.frame.specs.Written.{Written, first_in, onto}
use Rattle.frame.specs.Effect.{Effect, Worked, refusal}
use Rattle.frame.specs.Share.{PART}
use Rattle.frame.specs.Frame.{call1, call2, call3, call4}
use Rattle.frame.proofs.Cases.{call1_by, call3_by}
use Rattle.frame.proofs.Done.{or-true}
use Rattle.halves.specs.Ways.{lag_by, remembered, forward_by, inverse_by}
use Rattle.halves.specs.Halves.{onward, analysed, first_half, looked_back, synthesised, second_half}

-- ---- where no length is wrong

module _ (share : List Float) (whole : length share ≡ PART) where
  pub first_half_done : (way : Way) (samples : List Float) (sums : ℕ) → length samples ≡ 480 → sums ≡ 22
      → first_half share way samples sums
      ≡ onward (call1 share samples 960) (λ a. analysed a.kept way (first_in a.written) sums)
  unfolding first_half
  first_half_done way samples sums a b = simp (eq-eqb _ _ whole, eq-eqb _ _ a, eq-eqb _ _ b)

  pub second_half_done : (hearing : Hearing) (logs : List Float) (model : List ℕ) (out : ℕ) {spectrum : List Float}
      → length logs ≡ 22 → out ≡ 480 → hearing.index ≤ 7
      → spectrum ≡ forward_by hearing.way (looked_back share)
      → second_half share hearing logs model out
      ≡ onward (call3 share hearing spectrum logs model 961)
      (λ a. synthesised a.answer a.kept hearing.way (first_in a.written) out)
  unfolding second_half
  second_half_done hearing logs model out a b h e =
      simp (eq-eqb _ _ whole, eq-eqb _ _ a, eq-eqb _ _ b, le-ltb 7 hearing.index h, e)

-- the second half, where `out` has no place
pub second_half_no_out : (share : List Float) (hearing : Hearing) (logs : List Float) (model : List ℕ)
    → second_half share hearing logs model 0 ≡ refusal (Refused 5) share
unfolding second_half
second_half_no_out share hearing logs model = simp or-true

-- ---- the first call refused, and done

-- an effect by another name
pub as_is : {f g : Effect Reply} {reply : Reply} {share : List Float} {held out : List (List Float)} → f ≡ g
    → Worked g reply share held out → Worked f reply share held out
as_is e w = rw e w

-- refused, a call writes nothing; done, it fills the first of its buffers
pub record Writes (f : Effect Reply) : Type 0 where
  pub none : passed f.answer ≡ false → f.written ≡ []
  pub fills : passed f.answer ≡ true → (held : List Float) (more : List (List Float))
      → get_or (onto f.written (held ∷ more)) 0 [] ≡ first_in f.written

module _ (share : List Float) where
  refused : (reply : Reply) → passed reply ≡ false → Writes (refusal reply share)
  refused reply e = record { none = λ _. refl; fills = λ p. absurd (false≢true (sym e ∙ p)) }

  pub call1_writes : (samples : List Float) (window : ℕ) → Writes (call1 share samples window)
  call1_writes samples window =
      call1_by share Writes (λ n. refused (Refused n) refl) samples window
      (λ _ _. record { none = λ e. absurd (true≢false e); fills = λ _ _ _. refl })

  pub call3_writes : (hearing : Hearing) (spectrum logs : List Float) (model : List ℕ) (out : ℕ)
      → Writes (call3 share hearing spectrum logs model out)
  call3_writes hearing spectrum logs model out =
      call3_by share Writes (λ n. refused (Refused n) refl) hearing spectrum logs model out
      (λ n l _. refused (Misread n l) refl)
      (record { none = λ e. absurd (true≢false e); fills = λ _ _ _. refl })
      (λ _ _ _ _ _. record { none = λ e. absurd (true≢false e); fills = λ _ _ _. refl })

module _ {first : Effect Reply} {reply : Reply} {share : List Float} {held out : List (List Float)}
    (w : Worked first reply share held out) (n : Writes first) where
  told : passed reply ≡ passed first.answer
  told = ap passed w.answers

  pub refused_first : (second : Effect Reply → Effect Reply) (mine : List (List Float)) → passed reply ≡ false
      → Worked (onward first second) reply share mine mine
  refused_first second mine e =
      let no : passed first.answer ≡ false = sym told ∙ e in
      rw no (record { answers = w.answers; keeps = w.keeps; writes = rw (n.none no) refl })

pub handed_on : {first : Effect Reply} {reply : Reply} {share held new : List Float}
    → Worked first reply share (held ∷ []) (new ∷ []) → Writes first → passed reply ≡ true
    → (second : Reply → List Float → List Float → Effect Reply)
    → onward first (λ a. second a.answer a.kept (first_in a.written)) ≡ second reply share new
handed_on {first} {reply} {share} {held} {new} w n e second =
    let yes : passed first.answer ≡ true = sym (ap passed w.answers) ∙ e in
    let b : new ≡ first_in first.written =
    ap (λ (l : List (List Float)). get_or l 0 []) w.writes ∙ n.fills yes held [] in
    rw (yes, ← w.answers, ← w.keeps, ← b)

-- ---- what a half makes of its second call

behind : (ws : List Written) (held : List Float) (more : List (List Float))
    → drop 1 (onto ws (held ∷ more)) ≡ onto (drop 1 ws) more
behind [] held more = refl
behind (w ∷ ws) held more = refl

module _ (share : List Float) (way : Way) where
  pub analysed_by : (window : List Float) (sums : ℕ) {reply : Reply}
      {noted after spectrum held new held' new' : List Float} {lag n : ℕ} → noted ≡ remembered way share
      → spectrum ≡ forward_by way window → lag ≡ lag_by way share → n ≡ 960
      → Worked (call2 noted spectrum lag n sums) reply after (held' ∷ held ∷ []) (new' ∷ new ∷ [])
      → Worked (analysed share way window sums) reply after (held ∷ []) (new ∷ [])
  analysed_by window sums {noted = noted} {spectrum = spectrum} {lag = lag} {n = n} r e g l w =
      let two : Effect Reply = call2 (remembered way share) (forward_by way window) (lag_by way share) 960 sums in
      let same : two ≡ call2 noted spectrum lag n sums = rw (r, e, g, l) in
      let v = as_is same w in
      record { answers = v.answers; keeps = v.keeps; writes = ap (drop 1) v.writes ∙ behind two.written _ _ }

  pub synthesised_by : {reply last : Reply} (spectrum : List Float) (out : ℕ) {after : List Float}
      {held new : List (List Float)}
      → Worked (call4 share (inverse_by way spectrum) out) last after held new
      → Worked (synthesised reply share way spectrum out) reply after held new
  synthesised_by spectrum out w = record { answers = refl; keeps = w.keeps; writes = w.writes }

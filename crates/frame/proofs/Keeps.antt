-- What every call keeps, whatever it is given: the share's length; and, refused, the share. Assumes nothing.
use Rattle.std.specs.Prelude.{◌≡◌}
use Rattle.rules.proofs.Common.{ℕ, true, false, true≢false, List, [], refl, sym, ◌∙◌, length, Float}
use native.Mathlib.Omega.{arith}
use mathlib.Core.Logic.{inl}
use Rattle.rules.specs.Place.{Place}
use Rattle.frame.specs.declared.Hearing.{Hearing}
use Rattle.frame.specs.Reply.{Reply, Silent, Refused, Misread, passed}
use Rattle.frame.specs.Written.{Written}
use Rattle.frame.specs.Effect.{Effect}
use Rattle.frame.specs.Share.{PART}
use Rattle.frame.specs.Heard.{spoken}
use Rattle.frame.specs.Frame.{done1, call1, done2, call2, heard, call3, done4, call4}
use Rattle.frame.proofs.Beside.{Beside, done1_beside, done2_beside, done3_beside, done4_beside}
use Rattle.frame.proofs.Cases.{call1_by, call2_by, call3_by, call4_by}

pub record Keeps (share : List Float) (f : Effect Reply) : Type 0 where
  pub size : length f.kept ≡ length share
  pub still : passed f.answer ≡ false → f.kept ≡ share

-- behind every field
abbrev pub end : Place
end = record { at = PART; size = 0 }

module _ (share : List Float) where
  pub unmoved : (reply : Reply) (out : List Written)
      → Keeps share (record { answer = reply; kept = share; written = out })
  unmoved reply out = record { size = refl; still = λ _. refl }

  pub moved : (f : Effect Reply) → passed f.answer ≡ true → length share ≡ PART → Beside end share f.kept
      → Keeps share f
  moved f e whole b = record { size = b.size ∙ sym whole; still = λ h. absurd (true≢false (sym e ∙ h)) }

  bad : (n : ℕ) → Keeps share (record { answer = Refused n; kept = share; written = [] })
  bad n = unmoved (Refused n) _

  pub call1_keeps : (samples : List Float) (window : ℕ) → Keeps share (call1 share samples window)
  call1_keeps samples window =
      call1_by share (Keeps share) bad samples window
      (λ whole l. moved (done1 share samples) refl whole
      (done1_beside end share samples (inl (omega arith), (inl (omega arith), tt)) whole l))

  pub call2_keeps : (spectrum : List Float) (lag window sums : ℕ) → Keeps share (call2 share spectrum lag window sums)
  call2_keeps spectrum lag window sums =
      call2_by share (Keeps share) bad spectrum lag window sums
      (λ whole. moved (done2 share spectrum lag) refl whole
      (done2_beside end share spectrum lag (inl (omega arith), (inl (omega arith), (inl (omega arith), tt))) whole))

  pub call3_keeps : (hearing : Hearing) (spectrum logs : List Float) (model : List ℕ) (out : ℕ)
      → Keeps share (call3 share hearing spectrum logs model out)
  call3_keeps hearing spectrum logs model out =
      call3_by share (Keeps share) bad hearing spectrum logs model out (λ n l _. unmoved (Misread n l) _)
      (unmoved Silent _)
      (λ e m good whole inside.
      moved (heard e (spoken share hearing.index spectrum logs model m)) refl whole
      (done3_beside end share hearing.index spectrum logs model m
      (inl (omega arith), (inl (omega arith), (inl (omega arith), (inl (omega arith), (inl (omega arith), tt))))) good
      whole inside))

  pub call4_keeps : (inverse : List Float) (out : ℕ) → Keeps share (call4 share inverse out)
  call4_keeps inverse out =
      call4_by share (Keeps share) bad inverse out
      (λ whole. moved (done4 share inverse) refl whole (done4_beside end share inverse (inl (omega arith), tt) whole))

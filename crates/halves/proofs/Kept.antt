-- What the halves keep, as the calls do: a share's length, and refused all of it; and every place that lies apart from
-- the written ones.
-- Assumes nothing.
use Rattle.std.specs.Prelude.{◌∷◌, ◌≡◌}
use Rattle.rules.proofs.Common.{ℕ, List, [], refl, length, Float}
use native.Mathlib.Omega.{arith}
use mathlib.Core.Logic.{inl}
use Rattle.rules.specs.Place.{Place, get}
use Rattle.frame.specs.declared.Hearing.{Hearing}
use Rattle.frame.specs.Reply.{Reply, Silent, Heard, Refused, Misread}
use Rattle.frame.specs.declared.Way.{Way}
use Rattle.frame.specs.Share.{PART, input_mem, synthesis_mem, kept_x, kept_ex, kept_lag, mem_hp_x, finder_mem}
use Rattle.frame.specs.Heard.{spoken}
use Rattle.frame.specs.Written.{first_in}
use Rattle.frame.specs.Effect.{refusal}
use Rattle.frame.specs.Frame.{done1}
use Rattle.frame.proofs.Beside.{Beside, AllApart, then, done1_beside, done2_beside, done3_beside, done4_beside}
use Rattle.frame.proofs.Keeps.{Keeps, end, unmoved, moved}
use Rattle.halves.specs.Ways.{lag_by, remembered, forward_by, inverse_by}
use Rattle.halves.specs.Halves.{looked_back, first_half, second_half}
use Rattle.halves.proofs.Cases.{done_first, done_second, first_half_by, second_half_by}
use Rattle.halves.proofs.EitherWay.{remembered_beside}

-- ---- places apart

module _ (q : Place) where
  pub done_first_beside : (share : List Float) (way : Way) (samples : List Float)
      → AllApart (input_mem ∷ mem_hp_x ∷ kept_x ∷ kept_ex ∷ kept_lag ∷ finder_mem ∷ []) q
      → length share ≡ PART → length samples ≡ 480 → Beside q share (done_first share way samples).kept
  done_first_beside share way samples apart whole l =
      let a = done1 share samples in
      let one = done1_beside q share samples (apart.0, (apart.1.0, tt)) whole l in
      let kept = apart.1.1 in
      let two = then q one (remembered_beside q a.kept way kept.1.1.1.0 one.size) in
      then q two (done2_beside q (remembered way a.kept) (forward_by way (first_in a.written)) (lag_by way a.kept)
      (kept.0, (kept.1.0, (kept.1.1.0, tt))) two.size)

  pub done_second_beside : (reply : Reply) (share after : List Float) (way : Way) (spectrum : List Float)
      → AllApart (synthesis_mem ∷ []) q → Beside q share after
      → Beside q share (done_second reply after way spectrum).kept
  done_second_beside reply share after way spectrum apart b =
      then q b (done4_beside q after (inverse_by way spectrum) apart b.size)

-- ---- lengths, and what a refusal leaves

module _ (share : List Float) where
  refused : (reply : Reply) → Keeps share (refusal reply share)
  refused reply = unmoved share reply []

  as_it_was : (q : Place) → length share ≡ PART → Beside q share share
  as_it_was q whole = record { size = whole; same = refl }

  pub first_half_keeps : (way : Way) (samples : List Float) (sums : ℕ) → Keeps share (first_half share way samples sums)
  first_half_keeps way samples sums =
      first_half_by share (Keeps share) (λ n. refused (Refused n)) way samples sums
      (λ whole l.
      moved share (done_first share way samples) refl whole
      (done_first_beside end share way samples (
        inl (omega arith),
        (inl (omega arith), (inl (omega arith), (inl (omega arith), (inl (omega arith), (inl (omega arith), tt))))),
      ) whole l))

  pub second_half_keeps : (hearing : Hearing) (logs : List Float) (model : List ℕ) (out : ℕ)
      → Keeps share (second_half share hearing logs model out)
  second_half_keeps hearing logs model out =
      second_half_by share (Keeps share) (λ n. refused (Refused n)) hearing logs model out
      (λ n l _. refused (Misread n l))
      (λ whole. moved share (done_second Silent share hearing.way (get kept_x share)) refl whole
      (done_second_beside end Silent share share hearing.way (get kept_x share) (inl (omega arith), tt)
      (as_it_was end whole)))
      (λ e m good whole inside.
      let s = spoken share hearing.index (forward_by hearing.way (looked_back share)) logs model m in
      moved share (done_second (Heard s.voice e) s.share hearing.way s.spectrum) refl whole
      (done_second_beside end (Heard s.voice e) share s.share hearing.way s.spectrum (inl (omega arith), tt)
      (done3_beside end share hearing.index (forward_by hearing.way (looked_back share)) logs model m
      (inl (omega arith), (inl (omega arith), (inl (omega arith), (inl (omega arith), (inl (omega arith), tt))))) good
      whole inside)))

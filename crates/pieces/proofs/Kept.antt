-- What a call keeps, whatever it is given: a share's length; and, refused, the share and the answer buffers.
-- Assumes nothing.
use Rattle.std.specs.Prelude.{◌≡◌}
use Rattle.rules.proofs.Common.{ℕ, Bool, true, false, cond, true≢false, List, [], refl, sym, ap, ◌∙◌, ltb, length}
use Rattle.rules.proofs.Common.{take, drop, Float}
use Rattle.rules.specs.Place.{get, put}
use Rattle.frame.specs.Written.{Written, nothing}
use Rattle.frame.specs.declared.Hearing.{Hearing}
use Rattle.frame.specs.Reply.{Reply, Done, Refused, Misread, passed}
use Rattle.frame.specs.declared.Way.{Way}
use Rattle.frame.specs.Share.{SHARE}
use Rattle.frame.specs.Effect.{Effect, refusal}
use Rattle.halves.specs.Halves.{second_half}
use Rattle.pieces.specs.Pieces.{frame_part, waits, at_end, paused, further, piece, resume}
use Rattle.pieces.proofs.Cases.{piece_by, resume_by}
use Rattle.pieces.proofs.Halved.{first_length, second_passes}
use Rattle.pieces.proofs.Shares.{part_length, waits_length, frame_length}

pub record Keeps (share : List Float) (o : Effect Reply) : Type 0 where
  pub size : length share ≡ SHARE → length o.kept ≡ SHARE
  pub still : passed o.answer ≡ false → o.kept ≡ share
  pub mute : passed o.answer ≡ false → o.written ≡ []

-- ---- what becomes of the rest of a piece

module _ (reply : Reply) (share : List Float) (way : Way) (rest : List Float) (w : Written) where
  pub further_length : length share ≡ SHARE → length (further reply share way rest w).kept ≡ SHARE
  unfolding further
  further_length l = go (ltb (length rest) 480)
    where
      go : (t : Bool) → length (cond t (at_end reply share rest w) (paused reply share way rest w)).kept ≡ SHARE
      go true = waits_length share l rest
      go false =
          frame_length share l _ (first_length (get frame_part share) way (take 480 rest) 22 (part_length share l))

  pub further_reply : (further reply share way rest w).answer ≡ reply
  unfolding further
  further_reply = go (ltb (length rest) 480)
    where
      go : (t : Bool) → (cond t (at_end reply share rest w) (paused reply share way rest w)).answer ≡ reply
      go true = refl
      go false = refl

-- ---- the calls

module _ (share : List Float) where
  unmoved : (reply : Reply) → Keeps share (refusal reply share)
  unmoved reply = record { size = λ l. l; still = λ _. refl; mute = λ _. refl }

  moved : {o : Effect Reply} → passed o.answer ≡ true → length o.kept ≡ SHARE → Keeps share o
  moved p l =
      record {
        size = λ _. l;
        still = λ e. absurd (true≢false (sym p ∙ e));
        mute = λ e. absurd (true≢false (sym p ∙ e));
      }

  pub piece_kept : (way : Way) (waiting : ℕ) (samples : List Float) (out sums : ℕ)
      → Keeps share (piece share way waiting samples out sums)
  piece_kept way waiting samples out sums =
      piece_by share (Keeps share) (λ n. unmoved (Refused n)) way waiting samples out sums
      (λ k.
      moved (ap passed (further_reply Done (waits share []) way _ nothing))
      (further_length Done (waits share []) way _ nothing (waits_length share k.size [])))

  pub resume_kept : (hearing : Hearing) (noted progress : ℕ) (samples logs : List Float) (model : List ℕ) (out sums : ℕ)
      → Keeps share (resume share hearing noted progress samples logs model out sums)
  resume_kept hearing noted progress samples logs model out sums =
      resume_by share (Keeps share) (λ n. unmoved (Refused n)) hearing noted progress samples logs model out sums
      (λ n l _. unmoved (Misread n l))
      (λ k.
      let s = second_half (get frame_part share) hearing logs model 480 in
      let p = second_passes (get frame_part share) hearing logs model (part_length share k.size) k.taken
      k.inside k.right in
      let mid = put frame_part share s.kept in
      moved (ap passed (further_reply s.answer mid hearing.way (drop progress samples) _) ∙ p.passes)
      (further_length s.answer mid hearing.way
      (drop progress samples) _ (frame_length share k.size s.kept p.part)))

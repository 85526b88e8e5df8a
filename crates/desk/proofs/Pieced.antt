-- What is known of a piece and of a resume that are done. Assumes nothing.
--     piece_fitted, resume_fitted    they passed every test
--     piece_told, resume_told        so that their numbers can be reckoned with
--     resume_no_out                  a resume with no place for its samples is refused
use Rattle.std.specs.Prelude.{◌≤◌, ◌≡◌}
use Rattle.rules.proofs.Common.{ℕ, true, false, false≢true, List, refl, sym, ap, ◌∙◌, length, Float}
use native.Mathlib.Omega.{arith}
use Rattle.frame.specs.Reply.{passed}
use Rattle.frame.specs.declared.Hearing.{Hearing}
use Rattle.frame.specs.Reply.{Reply}
use Rattle.frame.specs.declared.Way.{Way}
use Rattle.pieces.specs.Pieces.{piece, resume}
use Rattle.pieces.proofs.Accepted.{Piece, Resume}
use Rattle.pieces.proofs.Cases.{piece_by, resume_by}

module _ (share : List Float) where
  pub piece_fitted : (way : Way) (waiting : ℕ) (samples : List Float) (out sums : ℕ)
      → passed (piece share way waiting samples out sums).answer ≡ true
      → Piece share waiting samples out sums
  piece_fitted way waiting samples out sums =
      piece_by share (λ o. passed o.answer ≡ true → Piece share waiting samples out sums)
      (λ n e. absurd (false≢true e)) way waiting samples out sums (λ k _. k)

  pub piece_told : (way : Way) (waiting : ℕ) (samples : List Float) (out sums : ℕ) {reply : Reply}
      → reply ≡ (piece share way waiting samples out sums).answer → passed reply ≡ true
      → (waiting ≤ 479) × (length samples ≤ 4096)
  piece_told way waiting samples out sums e p = let f = piece_fitted way waiting samples out sums
      (ap passed (sym e) ∙ p) in (f.waits, f.few)

  module _ (hearing : Hearing) (noted progress : ℕ) (samples logs : List Float) (model : List ℕ) where
    pub resume_fitted : (out sums : ℕ)
        → passed (resume share hearing noted progress samples logs model out sums).answer ≡ true
        → Resume share hearing noted progress samples logs model out sums
    resume_fitted out sums =
        resume_by share (λ o. passed o.answer ≡ true
        → Resume share hearing noted progress samples logs model out sums) (λ n e. absurd (false≢true e))
        hearing noted progress samples logs model out sums (λ n l _ e. absurd (false≢true e)) (λ k _. k)

    pub resume_told : (out sums : ℕ) {reply : Reply}
        → reply ≡ (resume share hearing noted progress samples logs model out sums).answer → passed reply ≡ true
        → (progress ≤ length samples) × (length samples ≤ 4096)
    resume_told out sums e p =
        let f = resume_fitted out sums (ap passed (sym e) ∙ p) in
        (omega (arith, f.within, f.same), omega (arith, f.few, f.same))

    pub resume_no_out : (sums : ℕ)
        → passed (resume share hearing noted progress samples logs model 0 sums).answer ≡ false
    resume_no_out sums =
        resume_by share (λ o. passed o.answer ≡ false) (λ n. refl) hearing noted progress samples logs model 0 sums
        (λ n l _. refl)
        (λ k. absurd (omega (arith, k.room, k.begun, k.within, k.same)))

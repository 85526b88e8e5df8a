-- What a call can give: what holds of every refusal, and of what is right where nothing is refused, holds of the call.
-- Assumes nothing.
use Rattle.std.specs.Prelude.{◌≡◌}
use Rattle.rules.proofs.Common.{ℕ, Bool, false, not, List, eqb, length, Float}
use Rattle.samples.specs.Samples.{good}
use Rattle.model.specs.Model.{read_of}
use Rattle.model.specs.Reading.{Refused as Unread}
use Rattle.frame.specs.declared.Hearing.{Hearing}
use Rattle.frame.specs.Reply.{Reply, Refused, Misread, passed, ◌refusedIf◌}
use Rattle.frame.specs.declared.Way.{Way}
use Rattle.frame.specs.Effect.{Effect, refusal}
use Rattle.frame.specs.Share.{SHARE}
use Rattle.frame.proofs.Tables.{by_number, by_rows}
use Rattle.pieces.specs.Pieces.{waiting_in, piece_fits, piece_rows, begun, piece, resume_fits, resume_rows, resumed}
use Rattle.pieces.specs.Pieces.{resume}
use Rattle.pieces.proofs.Accepted.{Piece, piece_cleared, Resume, resume_cleared}
use Rattle.pieces.proofs.Tested.{by_model}

module _ (share : List Float) (P : Effect Reply → Type 0) (bad : (n : ℕ) → P (refusal (Refused n) share)) where
  abbrev Of : Reply → Type 0
  Of reply = P (refusal reply share)

  -- a row that refuses where a test does not hold
  row : (n : ℕ) (t : Bool) → passed (n refusedIf not t) ≡ false → Of (n refusedIf not t)
  row n t = by_number Of bad n (not t)

  pub piece_by : (way : Way) (waiting : ℕ) (samples : List Float) (out sums : ℕ)
      → (Piece share waiting samples out sums → P (begun share way waiting samples))
      → P (piece share way waiting samples out sums)
  unfolding piece
  piece_by way waiting samples out sums h =
      by_rows share (begun share way waiting samples) P (piece_rows share waiting samples out sums) (
        row 5 (eqb (length share) SHARE),
        (
          row 5 (piece_fits waiting (length samples) out sums),
          (row 9 (good (waiting_in waiting share)), (row 9 (good samples), tt)),
        ),
      )
      (λ c. h (piece_cleared share waiting samples out sums c))

  -- a model that is refused comes with what the reader says of it
  pub resume_by : (hearing : Hearing) (noted progress : ℕ) (samples logs : List Float) (model : List ℕ) (out sums : ℕ)
      → ((n l : ℕ) → Unread n l ≡ read_of model → P (refusal (Misread n l) share))
      → (Resume share hearing noted progress samples logs model out sums
      → P (resumed share hearing progress samples logs model))
      → P (resume share hearing noted progress samples logs model out sums)
  unfolding resume
  resume_by hearing noted progress samples logs model out sums misread h =
      let fits = resume_fits hearing.index noted progress (length samples) (length logs) out sums in
      by_rows share (resumed share hearing progress samples logs model) P
      (resume_rows share hearing noted progress samples logs model out sums) (
        row 5 (eqb (length share) SHARE),
        (row 5 fits, (by_model hearing model Of bad misread, (row 9 (good samples), tt))),
      )
      (λ c. h (resume_cleared share hearing noted progress samples logs model out sums c))

-- For the contracts of private functions.
use Rattle.rules.specs.Common.{ℕ, List, Float}
use Rattle.frame.specs.Reply.{first_refusal, Reply}
use Rattle.frame.specs.declared.Hearing.{Hearing}
use Rattle.pieces.specs.Pieces.{piece_rows, resume_rows}

-- The refusal of a piece or of a resume, or Done.
unfoldable pub piece_reply : List Float → ℕ → List Float → ℕ → ℕ → Reply
piece_reply share waiting samples out sums = first_refusal (piece_rows share waiting samples out sums)

unfoldable pub resume_reply : List Float → Hearing → ℕ → ℕ → List Float → List Float → List ℕ → ℕ → ℕ → Reply
resume_reply share hearing piece progress samples logs model out sums =
    first_refusal (resume_rows share hearing piece progress samples logs model out sums)

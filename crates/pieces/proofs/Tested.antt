-- The rows of a table of refusals.
--     not-not          a row that refuses where a test does not hold
--     by_model         the row of a model
-- Assumes nothing.
use Rattle.std.specs.Prelude.{◌≡◌}
use Rattle.rules.proofs.Common.{ℕ, Bool, true, false, cond, not, true≢false, List, refl}
use borrow.Author.Tests.{not-false}
use Rattle.model.specs.Model.{read_of}
use Rattle.model.specs.Reading.{Reading, Good, Refused as Unread}
use Rattle.frame.specs.declared.Hearing.{Hearing}
use Rattle.frame.specs.Reply.{Reply, Done, Refused, Misread, passed, ◌refusedIf◌}
use Rattle.frame.specs.Frame.{counted, checked}
use Rattle.frame.proofs.Tables.{not_when}

pub not-not : (n : ℕ) (t : Bool) → passed (n refusedIf not t) ≡ true → t ≡ true
not-not n t h = not-false t (not_when n (not t) h)

module _ (hearing : Hearing) (model : List ℕ) where
  abbrev row : Reply
  row = checked (counted hearing) (read_of model)

  -- a model that is refused comes with what the reader says of it
  pub by_model : (P : Reply → Type 0) → ((n : ℕ) → P (Refused n))
      → ((n l : ℕ) → Unread n l ≡ read_of model → P (Misread n l))
      → passed (checked (counted hearing) (read_of model)) ≡ false → P (checked (counted hearing) (read_of model))
  unfolding checked
  by_model P bad misread = by_reading_lem (read_of model) refl
    where
      by_count : (t : Bool) → passed (cond t Done (Refused 8)) ≡ false → P (cond t Done (Refused 8))
      by_count true h = absurd (true≢false h)
      by_count false h = bad 8

      by_reading_lem : (r : Reading) → r ≡ read_of model → passed (checked (counted hearing) r) ≡ false
          → P (checked (counted hearing) r)
      by_reading_lem (Unread n l) e h = misread n l e
      by_reading_lem (Good m) e h = by_count (counted hearing m) h

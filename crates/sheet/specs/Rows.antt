-- A sheet written in parts: the records of some entries at a time, and at the end a trailer. What is
-- returned, and what the buffers hold afterwards.
use Rattle.std.specs.Prelude.{◌+◌, ◌*◌, ◌%◌, ◌∷◌, ◌++◌}
use Rattle.rules.specs.Common.{ℕ, not, List, [], eqb, ltb, length, get_or, drop}
use Rattle.rules.specs.Leaf.{◌leaving◌}
use Rattle.rules.specs.Lists.{sum}
use Rattle.rules.specs.Refusals.{Row, ◌when◌, refusing}
use Rattle.sheet.specs.Sheet.{records_of, trailer_of}
use Rattle.sheet.specs.Written.{known_kinds}

-- How many records there are so far, and the sum of their bytes, modulo 2^32.
pub record Tally : Type 0 where
  pub count : ℕ
  pub total : ℕ

-- The tally with the records of these entries added.
abbrev pub with_records : ℕ → List ℕ → Tally → Tally
with_records side es t =
    record { count = t.count + length es; total = (t.total + sum (records_of side es)) % 4294967296 }

-- The refusals of the records, and those of the trailer, in order.
abbrev pub records_faults : ℕ → List ℕ → List ℕ → ℕ → List Row
records_faults side es numbers room =
    5 when not (eqb (length numbers) 2)
    ∷ 32 when ltb 536870911 (get_or numbers 0 0 + length es)
    ∷ 33 when ltb 1 side
    ∷ 34 when not (known_kinds es)
    ∷ 36 when ltb room (8 * length es)
    ∷ []

unfoldable pub records_laid : ℕ → List ℕ → List ℕ → List ℕ → ℕ × (List ℕ × List ℕ)
records_laid side es numbers out =
    let t = with_records side es (record { count = get_or numbers 0 0; total = get_or numbers 1 0 }) in
    refusing (records_faults side es numbers (length out)) (λ r. r leaving numbers leaving out)
    (0 leaving t.count ∷ t.total ∷ [] leaving records_of side es ++ drop (8 * length es) out)

unfoldable pub trailer_laid : ℕ → ℕ → ℕ → List ℕ → ℕ × List ℕ
trailer_laid side count total out =
    refusing (32 when ltb 536870911 count ∷ 33 when ltb 1 side ∷ 36 when ltb (length out) 16 ∷ []) (λ r. r leaving out)
    (0 leaving trailer_of count side total ++ drop 16 out)

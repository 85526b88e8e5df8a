-- The number that a table of refusals gives, and tables one behind the other. Assumes nothing.
use Rattle.std.specs.Prelude.{◌+◌, ◌*◌, ◌∷◌, ◌++◌, ◌≡◌}
use Rattle.rules.proofs.Common.{ℕ, true, false, List, [], ap}
use Rattle.rules.specs.Refusals.{Row, ◌when◌}
use Rattle.rules.proofs.Refusals.{Clear}
use Rattle.model.specs.Writer.{in_layer}
use Rattle.model.specs.Private.{fault_in}

-- a number that is not 0
abbrev pub Some : ℕ → Type 0
Some n = n ≡ 0 → ⊥

-- a table with its layer
module _ (l : ℕ) where
  pub shifted : (rows : List Row) {r : ℕ} → r ≡ fault_in rows → Some r → r + 65536 * l ≡ fault_in (in_layer l rows)
  shifted [] e some = absurd (some e)
  shifted (n when true ∷ rows) e some = ap (λ n. n + 65536 * l) e
  shifted (n when false ∷ rows) e some = shifted rows e some

  pub clear_shifted : (rows : List Row) → Clear rows → Clear (in_layer l rows)
  clear_shifted [] c = tt
  clear_shifted (n when t ∷ rows) c = (c.0, clear_shifted rows c.1)

  pub shifted_clear : (rows : List Row) → Clear (in_layer l rows) → Clear rows
  shifted_clear [] c = tt
  shifted_clear (n when t ∷ rows) c = (c.0, shifted_clear rows c.1)

-- two tables without a refusal
pub clear_both : (rows more : List Row) → Clear (rows ++ more) → Clear rows × Clear more
clear_both [] more c = (tt, c)
clear_both (n when t ∷ rows) more c = let rest = clear_both rows more c.1 in ((c.0, rest.0), rest.1)

pub clear_joined : (rows more : List Row) → Clear rows → Clear more → Clear (rows ++ more)
clear_joined [] more c d = d
clear_joined (n when t ∷ rows) more c d = (c.0, clear_joined rows more c.1 d)

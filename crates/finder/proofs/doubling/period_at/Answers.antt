-- `finder::doubling::period_at` meets its contract. Assumes nothing.
use native.Mathlib.Omega.{arith}
use Rattle.finder.proofs.Ranges.{lean_of}
use Rattle.finder.proofs.doubling.period_at.Goals as goal

pub overflow_add-period : goal.overflow_add-period
overflow_add-period c = omega (arith, lean_of _ _ _ c.lean.ensures)

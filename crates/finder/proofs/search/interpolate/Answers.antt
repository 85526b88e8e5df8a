-- `finder::search::interpolate` meets its contract. Assumes nothing.
use native.Mathlib.Omega.{arith}
use Rattle.finder.proofs.Ranges.{lean_of}
use Rattle.finder.proofs.search.interpolate.Goals as goal

pub overflow_sub-result : goal.overflow_sub-result
overflow_sub-result c = omega (arith, lean_of _ _ _ c.lean.ensures)

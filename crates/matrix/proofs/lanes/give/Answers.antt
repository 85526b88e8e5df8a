-- `matrix::lanes::give` meets its contract. Assumes nothing.
use native.Mathlib.Omega.{arith}
use lib.ListN.{length-set}
use borrow.Author.Rules.{rules}
use Rattle.matrix.specs.Private.{store_four}
use Rattle.matrix.proofs.lanes.give.Goals as goal

pub bounds-to-place-2 : goal.bounds-to-place-2
unfolding store_four
bounds-to-place-2 c = simp length-set (omega arith)

pub bounds-to-place-3 : goal.bounds-to-place-3
unfolding store_four
bounds-to-place-3 c = simp length-set (omega arith)

pub bounds-to-place-4 : goal.bounds-to-place-4
unfolding store_four
bounds-to-place-4 c = simp length-set (omega arith)

pub returns : goal.returns
unfolding store_four
returns c = search rules

-- `matrix::sums::add_two` meets its contract. Assumes nothing.
use native.Mathlib.Omega.{arith}
use Rattle.rules.proofs.Loops.{turns, more, ended}
use Rattle.matrix.proofs.Columns.{two_columns}
use Rattle.matrix.proofs.sums.add_two.Goals as goal

pub loop-j-init : goal.loop-j-init
loop-j-init c = search turns

pub loop-j-preserved : goal.loop-j-preserved
loop-j-preserved c = more _ _ _ c.loop-j.invariant (rw (c.weight-in-loop-j.ensures, c.weight.ensures))

pub returns : goal.returns
returns c =
    let a = c.args in
    let l = c.loop-j in
    two_columns a.out.now a.first.now a.x a.second.now a.y
    (ended _ _ _ _ (omega arith) (omega arith) l.invariant)

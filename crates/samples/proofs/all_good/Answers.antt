-- `samples::all_good` meets its contract. Assumes nothing.
use native.Mathlib.Omega.{arith}
use Rattle.samples.proofs.Passed.{one_more_lem, all_passed}
use Rattle.samples.proofs.all_good.Goals as goal

pub loop-x-preserved : goal.loop-x-preserved
loop-x-preserved c =
    let l = c.loop-x in
    one_more_lem _ l.so_far l.x-index (omega arith) l.invariant

pub returns : goal.returns
returns c =
    all_passed _ c.loop-x.so_far c.loop-x.x-index (omega arith)
    c.loop-x.invariant

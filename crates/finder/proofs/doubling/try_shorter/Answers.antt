-- `finder::doubling::try_shorter` meets its contract. Assumes nothing.
use Rattle.std.specs.Prelude.{◌+◌}
use native.Mathlib.Omega.{arith}
use borrow.Author.Tests.{lt-ltb, le-ltb}
use Rattle.rules.specs.Loop.{stop}
use Rattle.rules.proofs.Loops.{turns, walk_more, walk_ended, walk_stop}
use Rattle.finder.specs.Doubling.{shorter}
use Rattle.finder.proofs.doubling.try_shorter.Goals as goal

pub loop-i-init : goal.loop-i-init
loop-i-init c = search turns

-- the turn that leaves the loop
pub returns-then-t1-lt30 : goal.returns-then-t1-lt30
unfolding shorter
returns-then-t1-lt30 c =
    let l = c.loop-i in
    walk_stop _ _ (l.i + 1) 14 (omega arith)
    (walk_more _ _ _ {next = stop l.best} l.invariant.1
    (rw (lt-ltb _ _ (rw c.shorten-t1.ensures at c.if-t1-lt30.true))))

pub loop-i-preserved : goal.loop-i-preserved
loop-i-preserved c =
    let l = c.loop-i in (
      omega arith,
      walk_more _ _ _ l.invariant.1
          (rw (
            c.consider-best.ensures,
            c.shorten-t1.ensures,
            le-ltb _ _ (rw c.shorten-t1.ensures at c.if-t1-lt30.false),
          )),
    )

pub returns : goal.returns
unfolding shorter
returns c = walk_ended _ _ _ 14 (omega arith) (omega arith) c.loop-i.invariant.1

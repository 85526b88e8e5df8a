-- `finder::doubling::look_up` meets its contract. Assumes nothing.
use Rattle.rules.proofs.Common.{refl, length-set}
use native.Mathlib.Omega.{arith}
use borrow.Author.Tests.{ne_eqb}
use Rattle.rules.proofs.Loops.{range_begin, range_more}
use Rattle.rules.proofs.Lists.{filling_more, filling_ended}
use Rattle.finder.specs.Doubling.{yy_step, lookup_at, yy_lookup}
use Rattle.finder.proofs.Joined.{filled_first}
use Rattle.finder.proofs.doubling.look_up.Goals as goal

pub loop-i-init : goal.loop-i-init
loop-i-init c =
    let a = c.args in (
      omega arith,
      omega arith,
      simp length-set (omega arith),
      range_begin _ _ 1,
      filled_first (lookup_at a.x.now a.xx) a.lookup.now (omega arith) refl,
    )

pub loop-i-preserved : goal.loop-i-preserved
loop-i-preserved c =
    let l = c.loop-i in
    let a = c.args in
    let next = range_more (yy_step a.x.now) a.xx 1 l.i (omega arith) l.invariant.3 refl in (
      omega arith,
      omega arith,
      l.invariant.2,
      next,
      filling_more _ _ l.i l.invariant.4 (omega arith)
          (rw (c.max.ensures, ne_eqb l.i 0 (λ z. omega arith), ← next)),
    )

pub returns : goal.returns
unfolding yy_lookup
returns c = let l = c.loop-i in filling_ended _ _ l.i 385 (omega arith) (omega arith) l.invariant.2 l.invariant.4

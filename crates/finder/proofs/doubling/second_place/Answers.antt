-- `finder::doubling::second_place` meets its contract. Assumes nothing.
use native.Mathlib.Omega.{arith}
use borrow.Author.Tests.{lt-ltb, le-ltb, eq-eqb, ne_eqb}
use Rattle.finder.specs.Doubling.{second_place}
use Rattle.finder.proofs.Ranges.{check_small, check_product}
use Rattle.finder.proofs.doubling.second_place.Goals as goal

pub returns-then-t1-t0-gt384 : goal.returns-then-t1-t0-gt384
unfolding second_place
returns-then-t1-t0-gt384 c = simp (eq-eqb _ _ c.if-k-eq2.true, lt-ltb _ _ c.if-t1-t0-gt384.true)

pub returns-then-k-eq2 : goal.returns-then-k-eq2
unfolding second_place
returns-then-k-eq2 c = simp (eq-eqb _ _ c.if-k-eq2.true, le-ltb _ _ c.if-t1-t0-gt384.false)

pub overflow_mul-result : goal.overflow_mul-result
unfolding second_place
overflow_mul-result c =
    omega (
      arith,
      check_small c.args.k c.second_check.ensures (omega arith) c.if-k-eq2.false,
    )

pub overflow_mul-result-2 : goal.overflow_mul-result-2
unfolding second_place
overflow_mul-result-2 c =
    omega (
      arith,
      check_product c.args.t0 c.args.k c.second_check.ensures (omega arith)
          (omega arith) c.if-k-eq2.false,
    )

pub overflow_add-result-2 : goal.overflow_add-result-2
unfolding second_place
overflow_add-result-2 c =
    omega (
      arith,
      check_product c.args.t0 c.args.k c.second_check.ensures (omega arith)
          (omega arith) c.if-k-eq2.false,
    )

pub returns : goal.returns
unfolding second_place
returns c = rw (ne_eqb _ _ c.if-k-eq2.false, c.second_check.ensures)

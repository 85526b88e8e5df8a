-- `matrix::sums::columns` meets its contract: two columns a turn, and one more where their number is odd.
-- Assumes nothing.
use Rattle.std.specs.Prelude.{◌+◌, ◌≡◌}
use Rattle.rules.proofs.Common.{ℕ, ◌∙◌}
use native.Mathlib.Omega.{arith}
use Rattle.rules.proofs.Loops.{turns, more, ended}
use Rattle.rules.proofs.Numbers.{row_fits}
use Rattle.matrix.specs.Sums.{mul_add, MulAddFits}
use Rattle.matrix.proofs.Columns.{column_alone, two_turns, two_fit}
use Rattle.matrix.proofs.sums.columns.Goals as goal

-- the lengths fit what the loop has
fit : {o n w s f m : ℕ} → n ≡ o → MulAddFits o w s f m → MulAddFits n w s f m
fit e fits = rw e fits

pub loop-i-init : goal.loop-i-init
unfolding mul_add
loop-i-init c = search turns

pub overflow_mul-start : goal.overflow_mul-start
unfolding mul_add
overflow_mul-start c = omega (arith, two_fit c.loop-i.i c.loop-i-test.true c.args.stride)

pub overflow_add-start : goal.overflow_add-start
unfolding mul_add
overflow_add-start c = omega (arith, two_fit c.loop-i.i c.loop-i-test.true c.args.stride)

pub overflow_add-next : goal.overflow_add-next
unfolding mul_add
overflow_add-next c = omega (arith, two_fit c.loop-i.i c.loop-i-test.true c.args.stride)

pub slice_bounds-add_two-count : goal.slice_bounds-add_two-count
unfolding mul_add
slice_bounds-add_two-count c = omega (arith, two_fit c.loop-i.i c.loop-i-test.true c.args.stride)

pub slice_bounds-add_two-start : goal.slice_bounds-add_two-start
unfolding mul_add
slice_bounds-add_two-start c = omega (arith, two_fit c.loop-i.i c.loop-i-test.true c.args.stride)

pub slice_bounds-add_two-count-in-loop-i : goal.slice_bounds-add_two-count-in-loop-i
unfolding mul_add
slice_bounds-add_two-count-in-loop-i c = omega (arith, two_fit c.loop-i.i c.loop-i-test.true c.args.stride)

pub slice_bounds-add_two-start-in-loop-i : goal.slice_bounds-add_two-start-in-loop-i
unfolding mul_add
slice_bounds-add_two-start-in-loop-i c = omega (arith, two_fit c.loop-i.i c.loop-i-test.true c.args.stride)

pub add_two-requires : goal.add_two-requires
unfolding mul_add
add_two-requires c = (
  omega (arith, two_fit c.loop-i.i c.loop-i-test.true c.args.stride),
  omega (arith, two_fit c.loop-i.i c.loop-i-test.true c.args.stride),
)

pub loop-i-preserved : goal.loop-i-preserved
loop-i-preserved c =
    let called = c.add_two in
    let l = c.loop-i in
    let a = c.args in
    let done = two_turns a.weights.now a.stride a.offset a.input.now a.out.now l.i
    c.loop-i-test.true (fit l.invariant.1 c.requires) in
    (omega arith, called.auto.out ∙ l.invariant.1, done l.invariant.2 called.ensures)

pub overflow_mul-start-then-i-input : goal.overflow_mul-start-then-i-input
unfolding mul_add
overflow_mul-start-then-i-input c = omega (arith, row_fits c.if-i-input.true c.args.stride)

pub overflow_add-start-then-i-input : goal.overflow_add-start-then-i-input
unfolding mul_add
overflow_add-start-then-i-input c = omega (arith, row_fits c.if-i-input.true c.args.stride)

pub slice_bounds-add_column-count : goal.slice_bounds-add_column-count
unfolding mul_add
slice_bounds-add_column-count c = omega (arith, row_fits c.if-i-input.true c.args.stride)

pub slice_bounds-add_column-start : goal.slice_bounds-add_column-start
unfolding mul_add
slice_bounds-add_column-start c = omega (arith, row_fits c.if-i-input.true c.args.stride)

pub add_column-requires : goal.add_column-requires
unfolding mul_add
add_column-requires c = omega (arith, row_fits c.if-i-input.true c.args.stride)

pub returns-then-i-input : goal.returns-then-i-input
unfolding mul_add
returns-then-i-input c =
    let l = c.loop-i in
    let a = c.args in
    let last = column_alone a.weights.now a.stride a.offset a.input.now l.out l.i c.if-i-input.true
    (fit l.invariant.1 c.requires) in
    ended _ _ (l.i + 1) _ (omega arith) (omega arith)
    (more _ _ l.i l.invariant.2 (c.add_column.ensures ∙ last))

pub returns-else-i-input : goal.returns-else-i-input
unfolding mul_add
returns-else-i-input c = search turns

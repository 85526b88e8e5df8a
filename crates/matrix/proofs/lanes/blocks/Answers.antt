-- `matrix::lanes::blocks` meets its contract. Assumes nothing.
use Rattle.std.specs.Prelude.{◌+◌, ◌%◌, ◌≤◌, ◌<◌, ◌≡◌}
use Rattle.rules.proofs.Common.{ℕ, refl, ap, ◌∙◌, length}
use native.Mathlib.Omega.{arith}
use Rattle.rules.proofs.Lists.{tab_none, tab_done}
use Rattle.matrix.specs.Private.{sixteen_sums}
use Rattle.matrix.proofs.Neurons.{block_more}
use Rattle.matrix.proofs.lanes.blocks.Goals as goal

more_room : {n a : ℕ} → a < n → a % 16 ≡ 0 → n % 16 ≡ 0 → a + 16 ≤ n
more_room below even whole = omega arith

pub loop-a-init : goal.loop-a-init
loop-a-init c = (omega arith, refl, tab_none _ _)

pub sums-s-requires : goal.sums-s-requires
sums-s-requires c =
    let pre = c.requires in
    record {
      inside = omega (arith, more_room c.loop-a-test.true c.loop-a.invariant.1 pre.even, pre.fits.rows);
      whole = pre.fits.columns;
    }

pub give-requires : goal.give-requires
give-requires c =
    omega (arith, more_room c.loop-a-test.true c.loop-a.invariant.1 c.requires.even, c.requires.places)

pub give-requires-in-loop-a : goal.give-requires-in-loop-a
give-requires-in-loop-a c =
    omega (arith, more_room c.loop-a-test.true c.loop-a.invariant.1 c.requires.even, c.requires.places)

pub give-requires-in-loop-a-2 : goal.give-requires-in-loop-a-2
give-requires-in-loop-a-2 c =
    omega (arith, more_room c.loop-a-test.true c.loop-a.invariant.1 c.requires.even, c.requires.places)

pub give-requires-in-loop-a-3 : goal.give-requires-in-loop-a-3
give-requires-in-loop-a-3 c =
    omega (arith, more_room c.loop-a-test.true c.loop-a.invariant.1 c.requires.even, c.requires.places)

pub loop-a-preserved : goal.loop-a-preserved
loop-a-preserved c =
    let l = c.loop-a in
    let a = c.args in
    let inside = more_room c.loop-a-test.true c.loop-a.invariant.1 c.requires.even in
    let same = c.sums-s.ensures
    ∙ ap (sixteen_sums a.weights.now a.stride (a.offset + l.a) a.input.now (length a.input.now))
    c.take_sixteen.ensures in
    let kept = block_more a.weights.now a.stride a.offset a.input.now a.out.now l.a l.invariant.1
    a.kept.now l.kept
    (omega (arith, inside, c.requires.places)) l.invariant.2 same c.give.ensures c.give-in-loop-a.ensures
    c.give-in-loop-a-2.ensures c.give-in-loop-a-3.ensures in
    (omega (arith, inside), omega (arith, l.invariant.1), kept)

pub returns : goal.returns
returns c =
    c.loop-a.invariant.2
    ∙ tab_done _ _ _ _ (omega arith)
    (omega (arith, c.requires.places))

pub returns-2 : goal.returns-2
returns-2 c =
    let l = c.loop-a in
    let a = c.args in
    let inside = more_room c.loop-a-test.true c.loop-a.invariant.1 c.requires.even in
    let same = c.sums-s.ensures
    ∙ ap (sixteen_sums a.weights.now a.stride (a.offset + l.a) a.input.now (length a.input.now))
    c.take_sixteen.ensures in
    let kept = block_more a.weights.now a.stride a.offset a.input.now a.out.now l.a l.invariant.1
    a.kept.now l.kept
    (omega (arith, inside, c.requires.places)) l.invariant.2 same c.give.ensures c.give-in-loop-a.ensures
    c.give-in-loop-a-2.ensures c.give-in-loop-a-3.ensures in
    kept ∙ tab_done _ _ _ _ (omega (arith, inside)) (omega (arith, inside, c.requires.places))

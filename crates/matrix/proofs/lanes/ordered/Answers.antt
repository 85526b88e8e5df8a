-- `matrix::lanes::ordered` meets its contract. Assumes nothing.
use Rattle.std.specs.Prelude.{◌+◌, ◌%◌, ◌≤◌, ◌<◌, ◌≡◌}
use Rattle.rules.proofs.Common.{ℕ, refl, ◌∙◌}
use native.Mathlib.Omega.{arith}
use Rattle.rules.proofs.Lists.{tab_none, tab_done}
use Rattle.matrix.proofs.Neurons.{more_ordered}
use Rattle.matrix.proofs.lanes.ordered.Goals as goal

-- another sixteen
room : {n m a : ℕ} → a < n → n ≡ m → a % 16 ≡ 0 → m % 16 ≡ 0 → a + 16 ≤ m
room below same even whole = omega arith

pub loop-a-init : goal.loop-a-init
loop-a-init c = (omega arith, refl, tab_none _ _)

pub back-requires : goal.back-requires
back-requires c =
    let inside = room c.loop-a-test.true c.requires.0 c.loop-a.invariant.1 c.requires.1 in
    (omega (arith, inside), omega (arith, inside, c.requires.0))

pub back-requires-in-loop-a : goal.back-requires-in-loop-a
back-requires-in-loop-a c =
    let inside = room c.loop-a-test.true c.requires.0 c.loop-a.invariant.1 c.requires.1 in
    (omega (arith, inside), omega (arith, inside, c.requires.0))

pub back-requires-in-loop-a-2 : goal.back-requires-in-loop-a-2
back-requires-in-loop-a-2 c =
    let inside = room c.loop-a-test.true c.requires.0 c.loop-a.invariant.1 c.requires.1 in
    (omega (arith, inside), omega (arith, inside, c.requires.0))

pub back-requires-in-loop-a-3 : goal.back-requires-in-loop-a-3
back-requires-in-loop-a-3 c =
    let inside = room c.loop-a-test.true c.requires.0 c.loop-a.invariant.1 c.requires.1 in
    (omega (arith, inside), omega (arith, inside, c.requires.0))

pub loop-a-preserved : goal.loop-a-preserved
loop-a-preserved c =
    let l = c.loop-a in
    let inside = room c.loop-a-test.true c.requires.0 l.invariant.1 c.requires.1 in
    let stored =
    more_ordered c.args.kept.now c.args.out.now l.out l.a l.invariant.1 inside l.invariant.2 c.back.ensures
    c.back-in-loop-a.ensures c.back-in-loop-a-2.ensures c.back-in-loop-a-3.ensures in
    (omega (arith, inside, c.requires.0), omega (arith, l.invariant.1), stored)

pub returns : goal.returns
returns c = c.loop-a.invariant.2 ∙ tab_done _ _ _ _ (omega arith) (omega arith)

pub returns-2 : goal.returns-2
returns-2 c =
    let l = c.loop-a in
    let inside = room c.loop-a-test.true c.requires.0 l.invariant.1 c.requires.1 in
    let stored =
    more_ordered c.args.kept.now c.args.out.now l.out l.a l.invariant.1 inside l.invariant.2 c.back.ensures
    c.back-in-loop-a.ensures c.back-in-loop-a-2.ensures c.back-in-loop-a-3.ensures in
    stored ∙ tab_done _ _ _ _ (omega (arith, inside, c.requires.0)) (omega (arith, inside, c.requires.0))

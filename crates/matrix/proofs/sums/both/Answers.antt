-- `matrix::sums::both` meets its contract. Assumes nothing.
use Rattle.std.specs.Prelude.{◌-◌}
use Rattle.rules.proofs.Common.{length}
use native.Mathlib.Omega.{arith}
use Rattle.matrix.proofs.Neurons.{rest_fits, both_parts, front_alone}
use Rattle.matrix.proofs.sums.both.Goals as goal

pub columns-requires : goal.columns-requires
columns-requires c =
    let a = c.args in
    let m = length a.kept.now in
    rest_fits a.weights.now a.stride a.offset a.input.now a.out.now m (m - 0) (omega arith)
    c.requires.0 _ c.wide.ensures c.requires.2

pub returns-then-m-n : goal.returns-then-m-n
returns-then-m-n c =
    let a = c.args in
    let m = length a.kept.now in
    both_parts a.weights.now a.stride a.offset a.input.now a.out.now m (m - 0) (omega arith)
    c.requires.0 _ c.wide.ensures
    c.requires.2 c.columns.ensures

pub returns-else-m-n : goal.returns-else-m-n
returns-else-m-n c =
    let a = c.args in
    let m = length a.kept.now in
    front_alone a.weights.now a.stride a.offset a.input.now a.out.now m (m - 0) (omega arith)
    c.requires.0 _ c.wide.ensures c.requires.2
    (omega (arith, c.if-m-n.false))

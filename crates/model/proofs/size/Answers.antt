use native.Mathlib.Omega.{arith}
use Rattle.model.proofs.Layer.{length_small, size_sum}
use Rattle.model.proofs.size.Goals as goal

pub overflow_add-result : goal.overflow_add-result
overflow_add-result c =
    let a = c.args in
    let small = length_small a.kind a.inputs a.neurons (omega arith) (omega arith) in
    rw c.array_lengths-n.ensures (omega (arith, small 0, small 1))

pub overflow_add-result-2 : goal.overflow_add-result-2
overflow_add-result-2 c =
    let a = c.args in
    let small = length_small a.kind a.inputs a.neurons (omega arith) (omega arith) in
    rw c.array_lengths-n.ensures (omega (arith, small 0, small 1, small 2))

pub returns : goal.returns
returns c = let a = c.args in rw c.array_lengths-n.ensures (size_sum a.kind a.inputs a.neurons)

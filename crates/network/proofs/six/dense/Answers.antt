-- `network::six::dense` meets its contract: the layer over the parts that its arrays are. Assumes nothing.
use native.Mathlib.Omega.{arith}
use Rattle.network.proofs.Parts.{found, ends_within, dense_arrays, dense_at_lem}
use Rattle.network.proofs.six.dense.Goals as goal

pub overflow_add-w_end : goal.overflow_add-w_end
overflow_add-w_end c =
    let within = c.requires.within in
    omega (arith, ends_within within (found 0 within c.place_in-weights.ensures))

pub overflow_add-b_end : goal.overflow_add-b_end
overflow_add-b_end c =
    let within = c.requires.within in
    omega (arith, ends_within within (found 2 within c.place_in-bias.ensures))

pub slice_bounds-dense-end : goal.slice_bounds-dense-end
slice_bounds-dense-end c =
    let within = c.requires.within in
    ends_within within (found 0 within c.place_in-weights.ensures)

pub slice_bounds-dense-end-2 : goal.slice_bounds-dense-end-2
slice_bounds-dense-end-2 c =
    let within = c.requires.within in
    ends_within within (found 2 within c.place_in-bias.ensures)

pub dense-requires : goal.dense-requires
dense-requires c =
    let within = c.requires.within in
    dense_arrays c.args.bytes.now c.args.h (found 0 within c.place_in-weights.ensures)
    (found 2 within c.place_in-bias.ensures) c.requires

pub returns : goal.returns
returns c =
    let within = c.requires.within in
    dense_at_lem c.args.bytes.now c.args.h (found 0 within c.place_in-weights.ensures)
    (found 2 within c.place_in-bias.ensures) _ c.dense.ensures

-- `model::array` meets its contract: the part at the place of the array. Assumes nothing.
use native.Mathlib.Omega.{arith}
use Rattle.model.specs.Model.{read_of}
use Rattle.model.specs.Array.{found_in, array_in}
use Rattle.model.proofs.Places.{array_within, part_seen}
use Rattle.model.proofs.array.Goals as goal

pub overflow_add-end : goal.overflow_add-end
overflow_add-end c =
    rw (c.array_place-p.ensures.0, c.array_place-p.ensures.1)
    (omega (arith, c.type_inv.bytes, array_within c.args.bytes.now c.args.layer c.args.which))

pub slice_bounds-result-end : goal.slice_bounds-result-end
slice_bounds-result-end c =
    rw (c.array_place-p.ensures.0, c.array_place-p.ensures.1)
    (array_within c.args.bytes.now c.args.layer c.args.which)

pub returns : goal.returns
returns c =
    let p = array_in (found_in (read_of c.args.bytes.now) c.args.layer) c.args.which in
    rw (c.array_place-p.ensures.0, c.array_place-p.ensures.1) (part_seen c.args.bytes p)

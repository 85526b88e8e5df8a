-- `numbers::entry_at` meets its contract. Assumes nothing.
use Rattle.std.proofs.Common.{arith}
use Rattle.numbers.proofs.Floors.{castable, not_below, number_is, listed}
use Rattle.numbers.proofs.entry_at.Goals as goal

pub float_to_int-i : goal.float_to_int-i
float_to_int-i c = castable _ _ (listed c.args.x) c.requires

pub overflow_cast-result : goal.overflow_cast-result
overflow_cast-result c =
    let below = listed c.args.x in
    (not_below _ _ below c.requires, rw (number_is _ _ below c.requires) (omega (arith, below)))

pub offset_bounds-table-i : goal.offset_bounds-table-i
offset_bounds-table-i c = let below = listed c.args.x in rw (number_is _ _ below c.requires) (omega (arith, below))

pub bounds-table-i : goal.bounds-table-i
bounds-table-i c = let below = listed c.args.x in rw (number_is _ _ below c.requires) below

pub returns : goal.returns
returns c = rw (number_is _ _ (listed c.args.x) c.requires)

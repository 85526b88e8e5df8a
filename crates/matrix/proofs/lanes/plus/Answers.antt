-- `matrix::lanes::plus` meets its contract. Assumes nothing.
use Rattle.matrix.specs.Private.{plus_four}
use Rattle.matrix.proofs.lanes.plus.Goals as goal

pub returns : goal.returns
unfolding plus_four
returns c =
    let bytes = c.word-v.ensures in
    let one = c.byte0.ensures in
    let two = c.byte1.ensures in
    let three = c.byte2.ensures in
    let four = c.byte3.ensures in
    rw (one, two, three, four, bytes.first, bytes.second, bytes.third, bytes.fourth)

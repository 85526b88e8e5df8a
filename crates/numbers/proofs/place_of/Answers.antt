-- `numbers::place_of` meets its contract. Assumes nothing.
use Rattle.numbers.proofs.UpToEight.{half_up}
use Rattle.numbers.proofs.Floors.{whole_part_lem}
use Rattle.numbers.proofs.place_of.Goals as goal

pub returns : goal.returns
returns c = rw c.too_far.ensures (whole_part_lem _ (half_up _ c.requires))

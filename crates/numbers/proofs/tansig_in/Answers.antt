-- `numbers::tansig_in` meets its contract. Assumes nothing.
use Rattle.numbers.proofs.Floors.{ends}
use Rattle.numbers.proofs.tansig_in.Goals as goal

pub entry_at-requires : goal.entry_at-requires
entry_at-requires c = rw (c.place_of-place.ensures, c.inside.ensures.0)

pub returns : goal.returns
returns c = rw (c.follow.ensures, c.entry_at.ensures) (ends _ _)

-- `numbers::follow` meets its contract. Assumes nothing.
use Rattle.numbers.proofs.follow.Goals as goal

pub returns : goal.returns
returns c =
    rw (
      c.ended.ensures,
      c.sign_of.ensures,
      c.place_of.ensures,
      c.inside-size.ensures.0,
    )

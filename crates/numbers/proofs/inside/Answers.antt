-- `numbers::inside` meets its contract. Assumes nothing.
use Rattle.std.specs.Prelude.{◌≡◌}
use Rattle.numbers.specs.Private.{inside_of}
use Rattle.numbers.proofs.Floors.{inside_within}
use Rattle.numbers.proofs.inside.Goals as goal

pub returns-then-x-2 : goal.returns-then-x-2
returns-then-x-2 c =
    let same : c.size_of.result ≡ inside_of c.args.x = rw (c.if-x.true, c.if-x-2.true) c.size_of.ensures in
    (same, rw same (inside_within _))

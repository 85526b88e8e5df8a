-- `transforms::table::Cosines::read` meets its contract. Assumes nothing.
use Rattle.std.specs.Prelude.{◌+◌}
use Rattle.transforms.proofs.Placed.{reading}
use Rattle.transforms.proofs.table.Cosines.read.Goals as goal

pub returns : goal.returns
returns c =
    let m = c.args.m in
    let table = c.args.self.now in
    let h = c.requires in
    rw (
      m.first,
      m.second,
      m.third,
      m.fourth,
      reading table.table m.k m.n c.args.quarter table.extended h,
      reading table.table (m.k + 1) m.n c.args.quarter table.extended h,
      reading table.table (m.k + 2) m.n c.args.quarter table.extended h,
      reading table.table (m.k + 3) m.n c.args.quarter table.extended h,
    )

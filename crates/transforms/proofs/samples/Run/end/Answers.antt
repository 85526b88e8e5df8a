-- `transforms::samples::Run::end` meets its contract. Assumes nothing.
use Rattle.transforms.proofs.Terms.{last_stepped}
use Rattle.transforms.proofs.samples.Run.end.Goals as goal

pub returns : goal.returns
returns c =
    let run = c.args.self in
    last_stepped run.x.now run.held run.m.k run.m.small (rw c.requires at run.sums) (rw c.requires at c.read.ensures)
    (rw c.requires at c.read-2.ensures) c.times-p.ensures c.times-q.ensures c.add_terms.ensures

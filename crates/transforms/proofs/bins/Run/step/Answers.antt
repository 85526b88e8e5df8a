-- `transforms::bins::Run::step` meets its contract. Assumes nothing.
use Rattle.transforms.proofs.Terms.{bin_stepped}
use Rattle.transforms.proofs.bins.Run.step.Goals as goal

pub invariant_of-result : goal.invariant_of-result
invariant_of-result c =
    let run = c.args.self in
    let m = c.next.ensures in
    record {
      sums = rw (m.0, m.1) (bin_stepped run.x.now run.m.k run.m.n c.args.j run.m.small c.requires.1 run.sums
          c.read.ensures
          c.read-2.ensures c.times-p.ensures c.times-q.ensures c.add_terms.ensures);
    }

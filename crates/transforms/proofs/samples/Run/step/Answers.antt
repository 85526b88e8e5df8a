-- `transforms::samples::Run::step` meets its contract. Assumes nothing.
use Rattle.transforms.proofs.Terms.{sample_stepped}
use Rattle.transforms.proofs.samples.Run.step.Goals as goal

pub invariant_of-result : goal.invariant_of-result
invariant_of-result c =
    let run = c.args.self in
    let m = c.next.ensures in
    record {
      long = run.long;
      held = run.held;
      sums = rw (m.0, m.1) (sample_stepped run.x.now run.held run.m.k run.m.small run.m.n c.args.j
          c.requires.2 run.sums c.read-p.ensures c.read-q.ensures c.requires.0 c.times.ensures c.times-2.ensures
          c.add_terms-h.ensures c.times-3.ensures c.times-4.ensures c.add_terms.ensures);
    }

use Rattle.model.proofs.Given.{six_counts}
use Rattle.model.proofs.writer.counts_given.Goals as goal

pub returns : goal.returns
returns c =
    rw (
      c.counts_there.ensures,
      c.counts_there-2.ensures,
      c.counts_there-3.ensures,
      c.counts_there-4.ensures,
      c.counts_there-5.ensures,
      c.counts_there-6.ensures,
    ) (six_counts c.args.shapes.now)

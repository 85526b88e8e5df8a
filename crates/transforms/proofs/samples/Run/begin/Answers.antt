-- `transforms::samples::Run::begin` meets its contract. Assumes nothing.
use mathlib.Core.Path.{◌∙◌}
use Rattle.transforms.proofs.Terms.{inverse_start}
use Rattle.transforms.proofs.samples.Run.begin.Goals as goal

pub invariant_of-result : goal.invariant_of-result
invariant_of-result c =
    let m = c.next in
    record {
      long = c.requires.0;
      held = c.type_inv.x 0;
      sums = rw (m.ensures.1, c.of_0.ensures.1) (c.all_of.ensures ∙ inverse_start c.args.x.now m.result.k);
    }

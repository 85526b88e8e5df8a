-- `transforms::bins::Run::begin` meets its contract. Assumes nothing.
use mathlib.Core.Path.{◌∙◌}
use Rattle.transforms.proofs.Terms.{forward_start}
use Rattle.transforms.proofs.bins.Run.begin.Goals as goal

pub invariant_of-result : goal.invariant_of-result
invariant_of-result c =
    let m = c.of_0 in
    record { sums = rw m.ensures.1 (c.all_of.ensures ∙ forward_start c.args.x.now m.result.k) }

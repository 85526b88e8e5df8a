-- `transforms::bins::spread` meets its contract. Assumes nothing.
use mathlib.Core.Path.{◌∙◌}
use native.Mathlib.Omega.{arith}
use borrow.Author.Rules.{rules}
use Rattle.rules.proofs.Lists.{filling_begin, filling_more, filling_ended}
use Rattle.transforms.specs.Transform.{forward_of}
use Rattle.transforms.specs.Private.{bin_part}
use Rattle.transforms.proofs.Stored.{kept_at}
use Rattle.transforms.proofs.bins.spread.Goals as goal

pub loop-j-init : goal.loop-j-init
loop-j-init c = (search rules, λ x k. filling_begin _ _)

pub loop-j-preserved : goal.loop-j-preserved
loop-j-preserved c =
    let l = c.loop-j in
    let spot = c.bin_spot.ensures in (
      l.invariant.0,
      λ x k. filling_more _ _ _ (l.invariant.1 x k) (omega arith) (kept_at (bin_part x 960) _ _ spot.0 k ∙ spot.1 x),
    )

pub returns : goal.returns
unfolding forward_of
returns c x k =
    filling_ended _ _ _ 961 (omega arith) (omega arith) c.loop-j.invariant.0 (c.loop-j.invariant.1 x k)

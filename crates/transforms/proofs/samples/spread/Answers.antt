-- `transforms::samples::spread` meets its contract. Assumes nothing.
use mathlib.Core.Path.{◌∙◌}
use native.Mathlib.Omega.{arith}
use borrow.Author.Rules.{rules}
use Rattle.rules.proofs.Lists.{filling_begin, filling_more, filling_ended}
use Rattle.transforms.specs.Transform.{inverse_of}
use Rattle.transforms.specs.Private.{whole_part}
use Rattle.transforms.proofs.Stored.{kept_at}
use Rattle.transforms.proofs.samples.spread.Goals as goal

pub loop-n-init : goal.loop-n-init
loop-n-init c = (search rules, λ x k. filling_begin _ _)

pub loop-n-preserved : goal.loop-n-preserved
loop-n-preserved c =
    let l = c.loop-n in
    let spot = c.sample_spot.ensures in (
      l.invariant.0,
      λ x k. filling_more _ _ _ (l.invariant.1 x k) (omega arith) (kept_at (whole_part x) _ _ spot.0 k ∙ spot.1 x),
    )

pub returns : goal.returns
unfolding inverse_of
returns c x k =
    filling_ended _ _ _ 960 (omega arith) (omega arith) c.loop-n.invariant.0 (c.loop-n.invariant.1 x k)

-- `pcm::nearest::nearest` meets its contract: each way through it is a case of proofs/Rounding. Assumes nothing.
use Rattle.std.specs.Prelude.{◌-◌, ◌%◌}
use Rattle.std.proofs.Common.{arith}
use Rattle.rules.proofs.Common.{ℕ, sym, ap, ◌∙◌}
use Rattle.pcm.proofs.Rounding.{of_nan, negative, others}
use Rattle.pcm.proofs.nearest.nearest.Goals as goal

pub returns-then-x : goal.returns-then-x
returns-then-x c = of_nan c.args.x c.if-x.true

pub up_to-requires : goal.up_to-requires
up_to-requires c = ((negative c.args.x c.if-x-2.true).0, omega arith)

pub returns-then-x-2 : goal.returns-then-x-2
returns-then-x-2 c =
    let n = negative c.args.x c.if-x-2.true in
    ap (λ (r : ℕ). (65536 - r) % 65536) c.up_to.ensures.0 ∙ sym n.1

pub up_to-requires-2 : goal.up_to-requires-2
up_to-requires-2 c = (
  (others c.args.x c.if-x.false c.if-x-2.false).0,
  omega arith,
)

pub returns : goal.returns
returns c =
    let n = others c.args.x c.if-x.false c.if-x-2.false in
    c.up_to-2.ensures.0 ∙ sym n.1

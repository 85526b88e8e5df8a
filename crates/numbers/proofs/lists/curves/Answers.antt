-- `numbers::lists::curves` meets its contract. Assumes nothing.
use Rattle.rules.proofs.Common.{ap, ◌∙◌, Float, nan}
use Rattle.std.proofs.Common.{arith}
use Rattle.rules.specs.F32.{at}
use Rattle.rules.proofs.Lists.{filling_more, filling_ahead, fills}
use Rattle.numbers.specs.Private.{followed}
use Rattle.numbers.proofs.lists.curves.Goals as goal

pub loop-j-init : goal.loop-j-init
loop-j-init c = search fills

pub loop-j-preserved : goal.loop-j-preserved
loop-j-preserved c =
    let l = c.loop-j in
    let spare = c.args.spare.now in
    let same = filling_ahead _ _ _ l.j nan l.invariant (omega arith) in
    filling_more _ _ _ l.invariant (omega arith)
    (c.follow.ensures ∙ ap (λ (x : Float). followed x (at spare l.j)) same)

pub returns : goal.returns
returns c = search fills

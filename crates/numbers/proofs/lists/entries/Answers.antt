-- `numbers::lists::entries` meets its contract. Assumes nothing.
use Rattle.rules.proofs.Common.{List, ap, ◌∙◌, length, Float, nan}
use Rattle.std.proofs.Common.{arith}
use Rattle.rules.specs.F32.{at}
use Rattle.rules.proofs.Lists.{filling_begin, filling_ahead, fills, length_tab, get_d_tab}
use Rattle.numbers.proofs.lists.entries.Goals as goal

pub loop-j-init : goal.loop-j-init
loop-j-init c = (ap length c.requires ∙ length_tab _ _, filling_begin _ _)

pub entry_at-requires : goal.entry_at-requires
entry_at-requires c =
    let l = c.loop-j in
    filling_ahead _ _ _ l.j nan l.invariant.1 (omega arith) ∙ ap (λ (s : List Float). at s l.j) c.requires
    ∙ get_d_tab _ _ l.j nan (omega arith)

pub loop-j-preserved : goal.loop-j-preserved
loop-j-preserved c = search (fills, c.entry_at.ensures)

pub returns : goal.returns
returns c = search fills

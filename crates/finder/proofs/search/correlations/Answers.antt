-- `finder::search::correlations` meets its contract. Assumes nothing.
use native.Mathlib.Omega.{arith}
use Rattle.rules.proofs.Lists.{filling_begin, filling_more, filling_ended}
use Rattle.finder.specs.Search.{fine}
use Rattle.finder.proofs.search.correlations.Goals as goal

pub loop-i-init : goal.loop-i-init
loop-i-init c = filling_begin _ _

pub loop-i-preserved : goal.loop-i-preserved
loop-i-preserved c = filling_more _ _ _ c.loop-i.invariant (omega arith) c.correlate.ensures

pub returns : goal.returns
unfolding fine
returns c = filling_ended _ _ _ 294 (omega arith) (omega arith) (omega arith) c.loop-i.invariant

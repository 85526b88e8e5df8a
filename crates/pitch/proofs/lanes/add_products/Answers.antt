-- `pitch::lanes::add_products` meets its contract. Assumes nothing.
use Rattle.std.specs.Prelude.{◌≡◌}
use Rattle.rules.proofs.Common.{refl, nan}
use native.Mathlib.Omega.{arith}
use Rattle.rules.specs.F32.{at}
use Rattle.rules.proofs.Lists.{filling_begin, filling_more, filling_ended, filling_ahead}
use Rattle.pitch.proofs.lanes.add_products.Goals as goal

pub loop-k-init : goal.loop-k-init
loop-k-init g c = filling_begin _ _

pub loop-k-preserved : goal.loop-k-preserved
loop-k-preserved g c =
    let l = c.loop-k in
    let same : at l.sums l.k ≡ at c.args.sums.now l.k = filling_ahead _ _ l.k l.k nan l.invariant (omega arith) in
    filling_more _ _ _ l.invariant (omega arith) (rw same)

pub returns : goal.returns
returns g c = filling_ended _ _ _ _ (omega arith) (omega arith) refl c.loop-k.invariant

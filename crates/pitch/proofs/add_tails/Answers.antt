-- `pitch::add_tails` meets its contract. Assumes nothing.
use Rattle.std.specs.Prelude.{◌≡◌}
use Rattle.rules.proofs.Common.{refl, nan}
use native.Mathlib.Omega.{arith}
use Rattle.rules.specs.F32.{at}
use Rattle.rules.proofs.Lists.{filling_begin, filling_more, filling_ended, filling_ahead}
use Rattle.pitch.proofs.add_tails.Goals as goal

pub loop-k-init : goal.loop-k-init
loop-k-init c = filling_begin _ _

pub loop-k-preserved : goal.loop-k-preserved
loop-k-preserved c =
    let l = c.loop-k in
    let same : at l.ac l.k ≡ at c.args.ac.now l.k = filling_ahead _ _ l.k l.k nan l.invariant (omega arith) in
    filling_more _ _ _ l.invariant (omega arith) (rw (same, c.tail.ensures))

pub returns : goal.returns
returns c = filling_ended _ _ _ _ (omega arith) (omega arith) refl c.loop-k.invariant

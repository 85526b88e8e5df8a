-- `pitch::floor` meets its contract. Assumes nothing.
use Rattle.std.specs.Prelude.{◌≡◌}
use Rattle.rules.proofs.Common.{nan}
use native.Mathlib.Omega.{arith}
use Rattle.rules.specs.F32.{at}
use Rattle.rules.proofs.Lists.{filling_begin, filling_more, filling_ended, filling_ahead}
use Rattle.pitch.specs.Downsample.{floored}
use Rattle.pitch.proofs.floor.Goals as goal

pub loop-i-init : goal.loop-i-init
loop-i-init c = filling_begin _ _

pub loop-i-preserved : goal.loop-i-preserved
loop-i-preserved c =
    let l = c.loop-i in
    let same : at l.ac l.i ≡ at c.args.ac.now l.i = filling_ahead _ _ l.i l.i nan l.invariant (omega arith) in
    filling_more _ _ _ l.invariant (omega arith) (rw (← same) c.floor_at.ensures)

pub returns : goal.returns
unfolding floored
returns c = filling_ended _ _ _ 5 (omega arith) (omega arith) (omega arith) c.loop-i.invariant

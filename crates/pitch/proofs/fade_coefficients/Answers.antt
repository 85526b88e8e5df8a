-- `pitch::fade_coefficients` meets its contract. Assumes nothing.
use Rattle.std.specs.Prelude.{◌≡◌}
use Rattle.rules.proofs.Common.{refl, nan}
use native.Mathlib.Omega.{arith}
use Rattle.rules.specs.F32.{at}
use Rattle.rules.proofs.Loops.{begin, more}
use Rattle.rules.proofs.Lists.{filling_begin, filling_more, filling_ended, filling_ahead}
use Rattle.pitch.specs.Downsample.{fade, fade_step, faded_lpc}
use Rattle.pitch.proofs.fade_coefficients.Goals as goal

pub loop-c-init : goal.loop-c-init
unfolding fade
loop-c-init c = (begin fade_step _, filling_begin _ _)

pub loop-c-preserved : goal.loop-c-preserved
unfolding fade
loop-c-preserved c =
    let l = c.loop-c in
    let next = more fade_step _ l.c-index l.invariant.0 refl in
    let i = l.c-index in
    let same : at l.lpc i ≡ at c.args.lpc.now i = filling_ahead _ _ i i nan l.invariant.1 (omega arith) in
    (next, filling_more _ _ _ l.invariant.1 (omega arith) (rw (same, ← next)))

pub returns : goal.returns
unfolding faded_lpc
returns c = filling_ended _ _ _ 4 (omega arith) (omega arith) (omega arith) c.loop-c.invariant.1

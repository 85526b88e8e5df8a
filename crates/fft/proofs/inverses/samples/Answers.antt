-- `fft::inverses::samples` meets its contract. Assumes nothing.
use Rattle.std.specs.Prelude.{◌+◌, ◌*◌, ◌≡◌}
use native.Mathlib.Omega.{arith}
use Rattle.rules.proofs.Common.{refl}
use Rattle.rules.proofs.Lists.{filling_begin, filling_more, filling_ended}
use Rattle.fft.proofs.Ends.{sample_even, sample_odd}
use Rattle.fft.proofs.inverses.samples.Goals as goal

pub loop-i-init : goal.loop-i-init
loop-i-init c = (omega arith, c.told-out, filling_begin _ _)

pub loop-i-preserved : goal.loop-i-preserved
loop-i-preserved c =
    let l = c.loop-i in
    let z = c.args.z.now in
    let even = filling_more _ _ (2 * l.i) l.invariant.2 (omega arith) (sample_even z (2 * l.i) l.i refl) in
    let odd = filling_more _ _ (2 * l.i + 1) even (omega arith) (sample_odd z (2 * l.i + 1) l.i refl) in
    let e : 2 * (l.i + 1) ≡ 2 * l.i + 1 + 1 = omega arith in
    (omega arith, l.invariant.1, rw e odd)

pub returns : goal.returns
returns c =
    let l = c.loop-i in
    filling_ended _ _ (2 * l.i) 960 (omega arith) (omega arith) l.invariant.1 l.invariant.2

-- `fft::forwards::middle_bins` meets its contract. Assumes nothing.
use Rattle.std.specs.Prelude.{◌+◌, ◌-◌, ◌*◌, ◌≡◌}
use native.Mathlib.Omega.{arith}
use Rattle.fft.proofs.forwards.middle_bins.Goals as goal

pub loop-b-init : goal.loop-b-init
loop-b-init c = (omega arith, c.requires)

pub four_bins-requires : goal.four_bins-requires
four_bins-requires c =
    let l = c.loop-b in let e : 2 * (4 * l.b + 1) - 1 ≡ 8 * l.b + 1 = omega arith in
    record { filled = rw e l.invariant.1; k_range = omega arith }

pub loop-b-preserved : goal.loop-b-preserved
loop-b-preserved c =
    let l = c.loop-b in
    let e : 8 * (l.b + 1) + 1 ≡ 2 * (4 * l.b + 1) + 7 = omega arith in
    (omega arith, rw e c.four_bins.ensures)

pub returns : goal.returns
returns c = let l = c.loop-b in let e : 8 * l.b + 1 ≡ 953 = omega arith in rw e at l.invariant.1

-- `transforms::bins::four_bins` meets its contract. Assumes nothing.
use mathlib.Core.Path.{◌≡◌}
use native.Mathlib.Omega.{arith}
use Rattle.transforms.proofs.bins.four_bins.Goals as goal

pub returns : goal.returns
returns c =
    let run = c.loop-run.run in
    let done = c.loop-run.invariant in
    let end : run.m.n ≡ 960 = omega arith in
    rw (done.0, done.1, end) at run.sums

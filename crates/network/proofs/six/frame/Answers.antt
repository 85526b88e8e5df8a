-- `network::six::frame` meets its contract. Assumes nothing.
use native.Mathlib.Omega.{arith}
use lib.ListN.{length-take}
use Rattle.network.proofs.Fitting.{few}
use Rattle.network.proofs.six.frame.Goals as goal

pub slice_bounds-hidden-end : goal.slice_bounds-hidden-end
slice_bounds-hidden-end c = omega (arith, (few _ _ c.requires.0).0)

pub frame_in-requires : goal.frame_in-requires
frame_in-requires c =
    let p = c.requires in
    (p.0, simp length-take (omega (arith, (few _ _ p.0).0)), p.1, p.2, p.3, p.4)

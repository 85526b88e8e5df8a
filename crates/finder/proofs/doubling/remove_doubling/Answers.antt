-- `finder::doubling::remove_doubling` meets its contract. Assumes nothing.
use native.Mathlib.Omega.{arith}
use Rattle.finder.proofs.Joined.{doubling_of}
use Rattle.finder.proofs.Ranges.{best_inner}
use Rattle.finder.proofs.doubling.remove_doubling.Goals as goal

pub period_at-requires : goal.period_at-requires
period_at-requires c =
    let inner = best_inner _ _ _ _ c.try_shorter-best.ensures (omega arith)
    (record { least = omega arith; most = omega arith }) in
    (inner.least, inner.most)

pub returns : goal.returns
returns c =
    rw (← c.min-t0.ensures)
    (doubling_of _ _ _ _ c.product_at-xx.ensures c.product_at-xy.ensures c.look_up.ensures
    c.pitch_gain-g0.ensures
    c.try_shorter-best.ensures c.period_at.ensures c.gain_of.ensures)

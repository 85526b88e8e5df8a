-- `pitch::lanes::corr_lags` meets its contract. Assumes nothing.
use native.Mathlib.Omega.{arith}
use Rattle.pitch.proofs.Sums.{sums_begin, sums_more, sums_ended}
use Rattle.pitch.proofs.lanes.corr_lags.Goals as goal

pub loop-j-init : goal.loop-j-init
loop-j-init g c = sums_begin _ _ _ _

pub loop-j-preserved : goal.loop-j-preserved
loop-j-preserved g c = sums_more _ _ _ _ _ c.loop-j.invariant c.add_products.ensures

pub returns : goal.returns
returns g c = sums_ended _ _ _ _ _ (omega arith) (omega arith) c.loop-j.invariant

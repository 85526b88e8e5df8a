-- `halves::first::analyse` meets its contract. Assumes nothing.
use native.Mathlib.Omega.{arith}
use lib.ListN.{length}
use Rattle.halves.proofs.Onward.{analysed_by}
use Rattle.halves.proofs.first.analyse.Goals as goal

pub returns : goal.returns
returns c =
    let a = c.args in
    analysed_by a.share.now a.way a.window.now (length a.sums.now) c.lag-lag.ensures.share_after
    c.forward.ensures c.lag-lag.ensures.lag_told (omega arith) c.call2.ensures

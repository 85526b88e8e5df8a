-- `halves::call2_own` meets its contract: a short share is refused, and of a whole one call 2 gets the lag that was
-- found. Assumes nothing.
use native.Mathlib.Omega.{arith}
use Rattle.rules.specs.Place.{get}
use Rattle.halves.proofs.Sister.{found, worked}
use Rattle.halves.proofs.own.call2_own.Goals as goal

pub returns : goal.returns
unfolding get
returns c =
    let a = c.args in
    worked _ _ _ _ (found a.share.now (omega arith) c.lag_of.ensures c.unwrap-lag.ensures) c.call2.ensures

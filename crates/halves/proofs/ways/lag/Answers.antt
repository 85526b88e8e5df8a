-- `halves::ways::lag` meets its contract: each way's lag by its case. Assumes nothing.
use mathlib.Core.Path.{refl}
use native.Mathlib.Omega.{arith}
use Rattle.rules.specs.Place.{get}
use Rattle.halves.specs.Ways.{lag_by, remembered}
use Rattle.halves.proofs.Sister.{found}
use Rattle.halves.proofs.ways.lag.Goals as goal

pub returns-in-Own : goal.returns-in-Own
unfolding lag_by remembered get
returns-in-Own c =
    let a = c.args in
    rw c.in-Own.is (record {
      lag_told = found a.share.now (omega arith) c.lag_of.ensures c.unwrap.ensures;
      share_after = refl;
    })

pub returns-in-Nnnoiseless : goal.returns-in-Nnnoiseless
returns-in-Nnnoiseless c = rw c.in-Nnnoiseless.is c.find.ensures

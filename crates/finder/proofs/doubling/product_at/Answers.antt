-- `finder::doubling::product_at` meets its contract. Assumes nothing.
use Prim.Native.Nat.{◌-◌}
use native.Mathlib.Omega.{arith}
use Rattle.finder.specs.Doubling.{product_at}
use Rattle.finder.proofs.Joined.{inner_at}
use Rattle.finder.proofs.doubling.product_at.Goals as goal

pub returns : goal.returns
unfolding product_at
returns c =
    let a = c.args in
    inner_at a.x.now (384 - a.t) (omega arith) (omega arith) c.unwrap.ensures c.inner_prod.ensures

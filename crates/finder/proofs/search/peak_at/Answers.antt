-- `finder::search::peak_at` meets its contract. Assumes nothing.
use native.Mathlib.Omega.{arith}
use Rattle.finder.specs.Search.{peak_at}
use Rattle.finder.proofs.Joined.{inner_at}
use Rattle.finder.proofs.search.peak_at.Goals as goal

pub returns : goal.returns
unfolding peak_at
returns c =
    let a = c.args in
    rw (
      c.max.ensures,
      inner_at a.buf.now a.i (omega arith) (omega arith) c.unwrap-product.ensures c.inner_prod.ensures,
    )

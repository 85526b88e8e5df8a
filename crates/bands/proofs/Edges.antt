-- What the proofs need of the band edges: they rise, band i's is at least i, the last is 400, and no band has more than
-- 88 bins. Assumes nothing.
use Rattle.std.specs.Prelude.{◌+◌, ◌-◌, ◌≤◌, ◌<◌, ◌≡◌}
use Rattle.rules.proofs.Common.{ℕ, List, leb, ltb, get_or}
use lib.Dec.{leb→le, ltb→lt}
use Rattle.rules.proofs.Tests.{at_each}
use Rattle.bands.specs.Bands.{edges, edge}

pub record Edge (i : ℕ) : Type 0 where
  pub far : i ≤ edge i
  pub rises : edge i < edge (i + 1)
  pub ends : edge (i + 1) ≤ 400
  pub small : edge (i + 1) - edge i ≤ 88

pub edges_rule : (i : ℕ) → i < 21 → Edge i
unfolding edge edges
edges_rule i h =
    record {
      far = leb→le _ _ (at_each 21 (λ k. leb k (edge k)) tt i h);
      rises = ltb→lt _ _ (at_each 21 (λ k. ltb (edge k) (edge (k + 1))) tt i h);
      ends = leb→le _ _ (at_each 21 (λ k. leb (edge (k + 1)) 400) tt i h);
      small = leb→le _ _ (at_each 21 (λ k. leb (edge (k + 1) - edge k) 88) tt i h);
    }

-- what the table says of band i
pub record Band (table : List ℕ) (i : ℕ) : Type 0 where
  pub start : get_or table i 0 ≡ edge i
  pub next : get_or table (i + 1) 0 ≡ edge (i + 1)
  pub rule : Edge i

pub band_of : (table : List ℕ) (i : ℕ) → table ≡ edges → i < 21 → Band table i
unfolding edge
band_of table i e h = record { start = rw e; next = rw e; rule = edges_rule i h }

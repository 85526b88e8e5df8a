-- What the table of the cosines holds at the place of a product. Assumes nothing.
use Rattle.std.specs.Prelude.{◌+◌, ◌*◌, ◌%◌, ◌≤◌, ◌≡◌}
use Rattle.rules.proofs.Common.{ℕ, List, ap, ◌∙◌, Float, nan}
use native.Mathlib.Omega.{arith}
use Rattle.rules.specs.F32.{at}
use Rattle.rules.proofs.Lists.{get_d_tab}
use Rattle.transforms.specs.Cosine.{cosine}
use Rattle.transforms.specs.Transform.{wave}
use Rattle.transforms.specs.Private.{extended}

pub reading : (table : List Float) (k n quarter : ℕ) → table ≡ extended cosine → quarter ≤ 240
    → at table ((k * n) % 960 + quarter) ≡ wave k n quarter
reading table k n quarter e h =
    let place : ((k * n) % 960 + quarter) % 960 ≡ (k * n + quarter) % 960 = omega arith in
    rw e (get_d_tab 1200 (λ i. at cosine (i % 960)) ((k * n) % 960 + quarter) nan (omega arith) ∙ ap (at cosine) place)

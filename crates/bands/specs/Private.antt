-- What the private functions promise.
use Rattle.rules.specs.Common.{ℕ, List, Float}
use Rattle.rules.specs.Loop.{loop}
use Rattle.rules.specs.Tab.{tab}
use Rattle.rules.specs.F32.{f32}
use Rattle.bands.specs.Dct.{dct_step}

-- the 22 sums of the DCT when each has its first j products
unfoldable pub sums_after : List Float → List Float → ℕ → List Float
sums_after table x j = tab 22 (λ i. loop j (dct_step table x i) (f32 0))

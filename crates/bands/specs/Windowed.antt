-- `apply_window` and `apply_window_in_place` of lib.rs.
use Rattle.std.specs.Prelude.{◌≡◌}
use Rattle.rules.specs.Common.{ℕ, List, Float}
use Rattle.rules.specs.Tab.{tab}
use Rattle.rules.specs.F32.{◌⊗◌, at}
use Rattle.bands.specs.Window.{window}

-- x[i] * w[i], by any 960 numbers
unfoldable pub windowed_by : List Float → List Float → List Float
windowed_by w x = tab 960 (λ i. at x i ⊗ at w i)

abbrev pub windowed : List Float → List Float
windowed x = windowed_by window x

-- the lengths
pub record WindowFits (out x : ℕ) : Type 0 where
  pub into : out ≡ 960
  pub from : x ≡ 960

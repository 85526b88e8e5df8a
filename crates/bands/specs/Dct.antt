-- `dct` of lib.rs.
use Rattle.std.specs.Prelude.{◌+◌, ◌*◌, ◌≡◌}
use Rattle.rules.specs.Common.{ℕ, List, Float, binary64, of_bits}
use Rattle.std.specs.Float.Ieee.{mul, div}
use Rattle.rules.specs.Loop.{loop}
use Rattle.rules.specs.Tab.{tab}
use Rattle.rules.specs.F32.{◌⊕◌, ◌⊗◌, at, f32}
use Rattle.numbers.specs.Narrowed.{narrowed}
use Rattle.numbers.specs.Root.{root}
use Rattle.bands.specs.DctTable.{dct_table}

-- sum += x[j] * table[j * NB_BANDS + i]
abbrev pub dct_step : List Float → List Float → ℕ → ℕ → Float → Float
dct_step table x i j sum = sum ⊕ at x j ⊗ at table (j * 22 + i)

-- (2.0 / NB_BANDS as f64).sqrt(), an f64
unfoldable pub dct_scale : Float
dct_scale = root binary64 (div binary64 (of_bits binary64 0x4000000000000000) (of_bits binary64 0x4036000000000000))

-- (sum as f64 * scale) as f32; an f32 as an f64 is the same number
unfoldable pub dct_scaled : Float → Float
dct_scaled sum = narrowed (mul binary64 sum dct_scale)

abbrev pub dct_sum : List Float → List Float → ℕ → Float
dct_sum table x i = loop 22 (dct_step table x i) (f32 0)

-- over any table of 484 numbers
unfoldable pub dct_in : List Float → List Float → List Float
dct_in table x = tab 22 (λ i. dct_scaled (dct_sum table x i))

abbrev pub dct_of : List Float → List Float
dct_of x = dct_in dct_table x

-- the lengths
pub record DctFits (out x : ℕ) : Type 0 where
  pub into : out ≡ 22
  pub from : x ≡ 22

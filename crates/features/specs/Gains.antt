-- The gains, each at least 0.6 times the remembered one, from `process_frame` of denoise.rs.
use Rattle.std.specs.Prelude.{◌≡◌}
use Rattle.rules.specs.Common.{ℕ, List, Float}
use Rattle.rules.specs.F32.{◌⊗◌, at, f32}
use Rattle.rules.specs.Tab.{tab}
use Rattle.numbers.specs.Larger.{larger}

-- Rust: 0.6 * lastg[i].
abbrev pub six_tenths : Float → Float
six_tenths last = f32 0x3F19999A ⊗ last

-- Rust: g[i].max(0.6 * lastg[i]).
abbrev pub at_least : Float → Float → Float
at_least g last = larger g (six_tenths last)

-- What both g and lastg become.
unfoldable pub gained : List Float → List Float → List Float
gained g last = tab 22 (λ i. at_least (at g i) (at last i))

-- Both lengths are 22.
pub record GainsFit (g last : ℕ) : Type 0 where
  -- The new gains.
  pub gains : g ≡ 22
  -- The remembered gains.
  pub remembered : last ≡ 22

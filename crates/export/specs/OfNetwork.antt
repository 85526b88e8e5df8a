-- What crosses the boundary of `network` as a number: an activation, and a frame's answer.
use Rattle.std.specs.Prelude.{◌≤◌}
use Rattle.rules.specs.Common.{ℕ}
use Rattle.rules.specs.Leaf.{◌leaving◌}
use Rattle.network.specs.Compute.{Layered, Outcome}
use Rattle.network.specs.Computed.{Computed, Done, Refused, Misread}
use Rattle.desk.specs.Surface.{seven_of}

-- an activation is 0, 1 or 2
pub record KnownActivation (activation : ℕ) (Fits : Type 0) : Type 0 where
  pub known : activation ≤ 2
  pub fits : Fits

abbrev pub computed_number : Computed → ℕ
computed_number Done = 0
computed_number (Refused number) = number
computed_number (Misread number layer) = seven_of number layer

-- the number, and what the buffers hold
abbrev pub computed_told : Outcome → ℕ × Layered
computed_told o = computed_number o.answer leaving o.layers

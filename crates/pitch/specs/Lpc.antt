-- `lpc` of pitch.rs: linear predictive coding by Levinson and Durbin.
use Rattle.std.specs.Prelude.{◌+◌, ◌-◌, ◌/◌}
use Rattle.rules.specs.Common.{ℕ, cond, List, length, set, Float, lt, neg}
use Rattle.std.specs.Float.Ieee.{eq}
use Rattle.rules.specs.Loop.{loop, walk, Flow, go, stop, value}
use Rattle.rules.specs.F32.{◌⊕◌, ◌⊖◌, ◌⊗◌, ◌⊘◌, at, f32, zeros}

-- Rust: for j in 0..i { rr += lpc[j] * ac[i - j] }.
abbrev pub recurrence_step : List Float → List Float → ℕ → ℕ → Float → Float
recurrence_step lpc ac i j rr = rr ⊕ at lpc j ⊗ at ac (i - j)

-- This sum for lag i.
abbrev pub recurrence : List Float → List Float → ℕ → Float
recurrence lpc ac i = loop i (recurrence_step lpc ac i) (f32 0)

-- Updates lpc[j] and lpc[i - 1 - j], each from both.
abbrev pub mirror_step : Float → ℕ → ℕ → List Float → List Float
mirror_step r i j lpc =
    let tmp1 = at lpc j in
    let tmp2 = at lpc (i - 1 - j) in
    set (set lpc j (tmp1 ⊕ r ⊗ tmp2)) (i - 1 - j) (tmp2 ⊕ r ⊗ tmp1)

-- The same for all pairs.
abbrev pub mirror : List Float → Float → ℕ → List Float
mirror lpc r i = loop ((i + 1) / 2) (mirror_step r i) lpc

-- What the loop carries.
pub record Lpc : Type 0 where
  -- The coefficients so far.
  pub lpc : List Float
  -- The error that is left.
  pub error : Float

-- The same from its two parts.
abbrev pub state : List Float → Float → Lpc
state lpc error = record { lpc = lpc; error = error }

-- One lag more.
unfoldable pub lag_next : List Float → ℕ → Lpc → Lpc
lag_next ac i s =
    let r = neg (recurrence s.lpc ac i ⊕ at ac (i + 1)) ⊘ s.error in
    state (mirror (set s.lpc i r) r i) (s.error ⊖ r ⊗ r ⊗ s.error)

-- Rust: the loop ends as soon as the gain is 30 dB. (0x3A83126F is 0.001.)
abbrev pub lpc_step : List Float → ℕ → Lpc → Flow Lpc
lpc_step ac i s =
    let next = lag_next ac i s in
    cond (lt next.error (f32 0x3A83126F ⊗ at ac 0)) (stop next) (go next)

-- The whole loop.
abbrev pub lags_of : List Float → List Float → List Float
lags_of lpc ac = (value (walk (length lpc) (lpc_step ac) (state lpc (at ac 0)))).lpc

-- The coefficients for p lags. They are zeros if ac[0] is 0.
unfoldable pub lpc_of : ℕ → List Float → List Float
lpc_of p ac = let none = zeros p in cond (eq (at ac 0) (f32 0)) none (lags_of none ac)

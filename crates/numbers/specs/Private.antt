-- For the contracts of private functions.
use Rattle.std.specs.Prelude.{◌+◌, ◌*◌, ◌≤◌, ◌≡◌}
use Rattle.rules.specs.Common.{ℕ, Bool, true, false, cond, List, pos, Float, binary32, binary64}
use Rattle.rules.specs.Common.{nan, inf, fin, of_int, lt, neg}
use Rattle.rules.specs.Common.{is_nan, up, down, of_bits}
use Rattle.std.specs.Float.{Format}
use Rattle.std.specs.Float.Ieee.{hid, ones, top}
use Rattle.rules.specs.F32.{f32, one, at, ◌⊖◌, ◌⊗◌}
use Rattle.numbers.specs.Activations.{eight, magnitude, sign_of, place, curve}
use Rattle.numbers.specs.Narrowed.{narrowed}
use Rattle.numbers.specs.declared.filter.Kept.{Kept}
use Rattle.numbers.specs.declared.filter.Memory.{Memory}

-- Finite, from 0 to 8, -0 included: the numbers that `tansig_approx` looks up.
abbrev pub UpToEight : Float → Type 0
UpToEight nan = ⊥
UpToEight (inf s) = ⊥
UpToEight (fin true m e) = m ≡ 0
UpToEight (fin false m e) = m * up e ≤ 8 * down e

-- Rust: if t < near { 1.0 } else { 0.0 }.
abbrev pub overshoot : Float → Float → Float
overshoot t near = cond (lt t near) one (f32 0)

-- The magnitude of x if `tansig_approx` looks it up, and otherwise 0.
abbrev pub inside_of : Float → Float
inside_of x = cond (lt x eight) (cond (lt (neg eight) x) (magnitude x) (f32 0)) (f32 0)

-- Its place in the table, as a float.
abbrev pub place_in : Float → Float
place_in x = of_int binary32 (pos (place (inside_of x)))

-- The entry of the table at that place.
abbrev pub entry_in : List Float → Float → Float
entry_in table x = at table (place (inside_of x))

-- `inner` if `tansig_approx` looks x up, and otherwise its value at that end: 1, -1, or 0 for a NaN.
abbrev pub ended_by : Float → Float → Float
ended_by x inner = cond (is_nan x) (f32 0) (cond (lt x eight) (cond (lt (neg eight) x) inner (neg one)) one)

-- tansig_approx of x, from the entry y of the table.
abbrev pub followed : Float → Float → Float
followed x y = ended_by x (sign_of x ⊗ curve y (inside_of x ⊖ f32 0x3D23D70A ⊗ place_in x))

-- What the filter keeps within a call, as a memory.
abbrev pub memory_in : Kept → Memory
memory_in kept = record { m0 = kept.m0; m1 = kept.m1 }

-- The bits of a float: those of its magnitude, and its sign.
abbrev pub with_sign : Format → Bool → ℕ → ℕ
with_sign f s b = cond s (top f) 0 + b

-- With either sign, the f32 with the magnitude r is the f64 with the magnitude a, narrowed; and r is not that of a NaN.
pub record Narrows (a r : ℕ) : Type 0 where
  pub small : r ≤ ones binary32 * hid binary32
  pub value : (s : Bool) → of_bits binary32 (with_sign binary32 s r)
      ≡ narrowed (of_bits binary64 (with_sign binary64 s a))

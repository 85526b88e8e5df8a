-- `tansig_approx` and `sigmoid_approx` of util.rs.
use Rattle.rules.specs.Common.{ℕ, cond, List, pos, Float, binary32, of_int, lt, neg, is_nan}
use Rattle.std.specs.Float.Ieee.{to_unsigned}
use Rattle.rules.specs.F32.{f32, one, at, ◌⊕◌, ◌⊖◌, ◌⊗◌}
use Rattle.numbers.specs.Tansig.{tansig}

-- 0.5.
abbrev half : Float
half = f32 0x3F000000

-- 8.0.
abbrev pub eight : Float
eight = f32 0x41000000

-- x.floor() as a whole number, for x from 0 to below 2^64.
abbrev pub floor : Float → ℕ
floor x = to_unsigned 64 x

-- Rust: if x < 0.0 { -x } else { x }.
abbrev pub magnitude : Float → Float
magnitude x = cond (lt x (f32 0)) (neg x) x

-- Rust: if x < 0.0 { -1.0 } else { 1.0 }.
abbrev pub sign_of : Float → Float
sign_of x = cond (lt x (f32 0)) (neg one) one

-- The nearest place in the table. Rust: (0.5 + 25.0 * x).floor().
abbrev pub place : Float → ℕ
place x = floor (half ⊕ f32 0x41C80000 ⊗ x)

-- Rust: let dy = 1.0 - y * y; y + x * dy * (1.0 - y * x).
abbrev pub curve : Float → Float → Float
curve y x = y ⊕ x ⊗ (one ⊖ y ⊗ y) ⊗ (one ⊖ y ⊗ x)

-- From the nearest place in the table. Rust: let i = place(x); let y = TANSIG_TABLE[i]; x -= 0.04 * i.
abbrev pub near : List Float → Float → Float
near table x = curve (at table (place x)) (x ⊖ f32 0x3D23D70A ⊗ of_int binary32 (pos (place x)))

-- tansig_approx with any table of 201 numbers. A NaN gives 0.0 (request 09); in the Rust it gives 1.0.
unfoldable pub tansig_in : List Float → Float → Float
tansig_in table x =
    cond (is_nan x) (f32 0) (cond (lt x eight)
    (cond (lt (neg eight) x) (sign_of x ⊗ near table (magnitude x)) (neg one)) one)

-- sigmoid_approx with any table of 201 numbers.
unfoldable pub sigmoid_in : List Float → Float → Float
unfolding tansig_in
sigmoid_in table x = half ⊕ half ⊗ tansig_in table (half ⊗ x)

-- tansig_approx, with TANSIG_TABLE.
abbrev pub tansig_approx : Float → Float
tansig_approx x = tansig_in tansig x

-- sigmoid_approx, with TANSIG_TABLE.
abbrev pub sigmoid_approx : Float → Float
sigmoid_approx x = sigmoid_in tansig x

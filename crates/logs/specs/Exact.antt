-- The rule of the constants, and the steps of `log10` that lose nothing. An f64 is written exactly as z / c with a
-- whole number z; zero is +0.
use Rattle.rules.specs.Common.{ℕ, suc, true, false, pos, Float, binary32, binary64}
use Rattle.rules.specs.Common.{nan, inf, fin, up, down}
use Rattle.std.specs.Prelude.{T, ℤ, negsuc, ◌+ℤ◌, ◌-ℤ◌, ◌*ℤ◌, ◌+◌, ◌*◌, ◌/◌, ◌%◌, ◌^◌, ◌≤◌, ◌<◌}
use Rattle.std.specs.Float.Ieee.{fits, to_bits}
use Rattle.std.specs.Float.Ieee.Exact.{HasValue}
use Rattle.std.specs.Float.Ieee.Positive.{positive}
use Rattle.logs.specs.Tables.{row_at, two_high}
use Rattle.logs.specs.Log10.{row_of, off_centre, high_of}

-- x is exactly z / c.
abbrev pub Exactly : Float → ℤ → ℕ → Type 0
Exactly x (pos n) c = HasValue x false n c
Exactly x (negsuc n) c = HasValue x true (suc n) c

-- How many times 2^-p is contained in x.
abbrev pub wholes : ℕ → Float → ℕ
wholes p nan = 0
wholes p (inf s) = 0
wholes p (fin s m e) = m * up e * 2 ^ p / down e

-- x is a whole number of 2^-p, from `least` to `most` of them.
pub record Grained (p least most : ℕ) (x : Float) : Type 0 where
  -- It is a whole number of 2^-p.
  pub value : Exactly x (pos (wholes p x)) (2 ^ p)
  -- At least this many.
  pub from : least ≤ wholes p x
  -- At most this many.
  pub to : wholes p x ≤ most

-- ---- the rule: a centre has 20 binary digits, from 1/2 to 1; high parts are whole numbers of 2^-40, below 1/2
pub record Rule (i : ℕ) : Type 0 where
  -- The centre.
  pub centre : Grained 20 (2 ^ 19) (2 ^ 20) (row_at i).centre
  -- The high part of its logarithm.
  pub high : Grained 40 0 (2 ^ 39) (row_at i).high

-- ---- m, of 24 digits, in whole numbers of 2^-23
-- m as a whole number of 2^-23: an f32 has 24 binary digits.
abbrev pub digits_of : ℕ → ℕ
digits_of bits = 2 ^ 23 + bits % 2 ^ 52 / 2 ^ 29

-- m * centre - 1 is exact if m has 24 digits.
abbrev pub RestExact : ℕ → Type 0
RestExact bits =
    Exactly (off_centre bits) (pos (digits_of bits * wholes 20 (row_at (row_of bits)).centre) -ℤ pos (2 ^ 43)) (2 ^ 43)

-- e * two_high + high is exact.
abbrev pub HighExact : ℕ → Type 0
HighExact bits =
    Exactly (high_of bits) ((pos (bits / 2 ^ 52) -ℤ pos 1023) *ℤ pos (wholes 40 two_high) +ℤ pos
    (wholes 40 (row_at (row_of bits)).high)) (2 ^ 40)

-- Both steps are exact for one f32.
pub record Exact (x : Float) : Type 0 where
  -- m * centre - 1.
  pub rest : RestExact (to_bits binary64 x)
  -- e * two_high + high.
  pub high : HighExact (to_bits binary64 x)

-- ---- what is claimed: the rule holds of all 33 rows, and of log10 2; so both steps are exact at every f32 above zero
pub record Claim : Type 0 where
  -- The rule holds for each row.
  pub ruled : (i : ℕ) → i < 33 → Rule i
  -- log10(2) follows the same rule.
  pub two : Grained 40 1 (2 ^ 39) two_high
  -- Both steps are exact for every f32 above zero.
  pub exact : (x : Float) → T (fits binary32 x) → T (positive x) → Exact x

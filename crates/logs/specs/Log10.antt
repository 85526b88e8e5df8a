-- The logarithm to base 10: each constant by its bits, each f64 operation rounded in the order in which it is written,
-- and the result rounded to an f32. That this is the nearest f32 to the true logarithm was tried for every f32
-- (docs/BENCHMARKS.md), and is not proved: there is no logarithm of real numbers here. proofs/Exact.antt shows which
-- steps lose nothing.
use Rattle.std.specs.Prelude.{◌+◌, ◌-◌, ◌/◌, ◌%◌, ◌^◌, ◌&&◌, ◌≡◌}
use Rattle.rules.specs.Common.{ℕ, zero, suc, true, false, cond, List, eqb, pos}
use Rattle.rules.specs.Common.{Float, binary64, nan, inf, fin}
use Rattle.rules.specs.Common.{of_int, lt}
use Rattle.std.specs.Bool.{beq}
use Rattle.std.specs.Float.Ieee.{to_bits, ne}
use Rattle.rules.specs.F32.{at}
use Rattle.rules.specs.Tab.{tab}
use Rattle.numbers.specs.Narrowed.{narrowed}
use Rattle.rules.specs.F64.{f64, ◌+₆₄◌, ◌-₆₄◌, ◌*₆₄◌}
use Rattle.logs.specs.Tables.{row_at, two_high, two_low, slope_high, slope_low, series2, series3, series4, series5}
use Rattle.logs.specs.Tables.{series6, series7}

-- ---- x = 2^e * m, by its bits as an f64: every f32 above 0 is a normal f64

-- e as an f64: the field of the exponent minus 1023.
abbrev pub exponent_of : ℕ → Float
exponent_of bits = of_int binary64 (pos (bits / 2 ^ 52)) -₆₄ f64 0x408FF80000000000

-- m, at least 1 and below 2: the digits of x with the exponent of 1.
abbrev pub mantissa_of : ℕ → Float
mantissa_of bits = f64 (0x3FF0000000000000 + bits % 2 ^ 52)

-- The row whose centre is near 1 / m: (m - 1) * 32, rounded to a whole number.
abbrev pub row_of : ℕ → ℕ
row_of bits = (bits % 2 ^ 52 + 2 ^ 46) / 2 ^ 47

-- r = m * centre - 1, which is exact.
unfoldable pub off_centre : ℕ → Float
off_centre bits = mantissa_of bits *₆₄ (row_at (row_of bits)).centre -₆₄ f64 0x3FF0000000000000

-- The high part of e * log10(2) - log10(centre), which is exact.
unfoldable pub high_of : ℕ → Float
high_of bits = exponent_of bits *₆₄ two_high +₆₄ (row_at (row_of bits)).high

-- The low part of it: what the high part lacks.
unfoldable pub low_of : ℕ → Float
low_of bits = exponent_of bits *₆₄ two_low +₆₄ (row_at (row_of bits)).low

-- ---- log10(1 + r), and the sum

-- The series of log10(1 + r), from r^2 on.
unfoldable pub series : Float → Float
series r =
    r *₆₄ r *₆₄ (series2 +₆₄ r *₆₄
    (series3 +₆₄ r *₆₄ (series4 +₆₄ r *₆₄ (series5 +₆₄ r *₆₄ (series6 +₆₄ r *₆₄ series7)))))

-- What rounding lost in s = hi + p.
unfoldable pub lost_of : Float → Float → Float → Float
lost_of hi p s = let back = s -₆₄ hi in (hi -₆₄ (s -₆₄ back)) +₆₄ (p -₆₄ back)

-- t may be half way between two f32 when the true number is not: then t moves by one bit towards z, which is what t
-- lost.
unfoldable pub nudged : Float → Float → Float
nudged t z =
    let bits = to_bits binary64 t in
    cond (eqb (bits % 2 ^ 29) (2 ^ 28) && ne z (f64 0))
    (f64 (cond (beq (lt (f64 0) z) (lt (f64 0) t)) (bits + 1) (bits - 1))) t

-- hi + lo + log10(1 + r).
unfoldable pub summed : Float → Float → Float → Float
summed hi lo r =
    let p = slope_high *₆₄ r in
    let s = hi +₆₄ p in
    let w = lost_of hi p s +₆₄ (slope_low *₆₄ r +₆₄ (series r +₆₄ lo)) in
    let t = s +₆₄ w in
    nudged t (w -₆₄ (t -₆₄ s))

-- The logarithm of the number with these bits.
unfoldable pub log_of_bits : ℕ → Float
log_of_bits bits = summed (high_of bits) (low_of bits) (off_centre bits)

-- ---- of any f32, as IEEE 754 has it: minus infinity for both zeros, and a NaN below zero
unfoldable pub log10_of : Float → Float
unfolding narrowed to_bits log_of_bits
log10_of nan = nan
log10_of (inf s) = cond s nan (inf false)
log10_of (fin s zero e) = inf true
log10_of (fin true (suc m) e) = nan
log10_of (fin false (suc m) e) = narrowed (log_of_bits (to_bits binary64 (fin false (suc m) e)))

-- The logarithms of the 22 sums.
unfoldable pub logs_of : List Float → List Float
unfolding log10_of
logs_of sums = tab 22 (λ i. log10_of (at sums i))

-- Both lengths are 22.
pub record LogsFits (out sums : ℕ) : Type 0 where
  -- The logarithms.
  pub into : out ≡ 22
  -- The sums.
  pub from : sums ≡ 22

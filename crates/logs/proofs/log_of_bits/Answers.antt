-- `logs::log_of_bits` meets its contract. Assumes nothing.
use Rattle.std.specs.Prelude.{◌^◌, ◌≤◌}
use Rattle.rules.proofs.Common.{ℕ, ap, ◌∙◌, T, pos, Float, binary64}
use native.Mathlib.Omega.{arith}
use lib.Dec.{le→leb}
use lib.Ieee.{in_float}
use Rattle.numbers.proofs.NoNan.{real_pattern}
use Rattle.rules.specs.F64.{f64, ◌+₆₄◌, ◌-₆₄◌, ◌*₆₄◌}
use Rattle.logs.specs.Tables.{two_high, two_low}
use Rattle.logs.specs.declared.table.Row.{Row}
use Rattle.logs.specs.Log10.{exponent_of, mantissa_of, off_centre, high_of, low_of, summed, log_of_bits}
use Rattle.logs.proofs.log_of_bits.Goals as goal

-- `n as f64` loses nothing
casts : (n : ℕ) → n ≤ 2 ^ 53 → T (in_float binary64 (pos n))
unfolding in_float
casts n h = le→leb n (2 ^ 53) h

pub int_to_float-e : goal.int_to_float-e
int_to_float-e c = casts _ (omega arith)

pub float_from_bits-m : goal.float_from_bits-m
float_from_bits-m c = real_pattern binary64 _ (omega arith)

pub returns : goal.returns
unfolding log_of_bits off_centre high_of low_of
returns c =
    let bits = c.args.bits in
    let by : Row → Float = λ w. summed (exponent_of bits *₆₄ two_high +₆₄ w.high)
    (exponent_of bits *₆₄ two_low +₆₄ w.low)
    (mantissa_of bits *₆₄ w.centre -₆₄ f64 0x3FF0000000000000) in
    c.sum_of.ensures ∙ ap by c.row_at-row.ensures

-- A spectrum is 961 numbers: bin 0, which is real, then the real and imaginary parts of bins 1 to 480.
use Rattle.std.specs.Prelude.{◌+◌, ◌-◌, ◌*◌, ◌/◌}
use Rattle.rules.specs.Common.{ℕ, cond, List, eqb, Float}
use Rattle.rules.specs.F32.{at, f32}

abbrev pub re : List Float → ℕ → Float
re x k = cond (eqb k 0) (at x 0) (at x (2 * k - 1))

-- The imaginary part. That of bin 0 is +0.0.
abbrev pub im : List Float → ℕ → Float
im x k = cond (eqb k 0) (f32 0) (at x (2 * k))

-- The bin to which number n of a spectrum belongs.
abbrev pub bin_of : ℕ → ℕ
bin_of n = (n + 1) / 2

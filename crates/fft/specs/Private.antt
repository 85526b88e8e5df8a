-- For the contracts of private functions: the structs of the code, and a list of complex numbers that is filled four
-- lanes at a time.
use Rattle.std.specs.Prelude.{◌+◌, ◌*◌, ◌<◌, ◌≡◌}
use Rattle.rules.specs.Common.{ℕ, zero, suc, List, length, get_or, set, Float, nan}
use Rattle.rules.specs.Tab.{tab}
use Rattle.rules.specs.F32.{at}
use Rattle.fft.specs.Ops.{Complex}
use Rattle.fft.specs.Fast.{complex_at}
use Rattle.fft.specs.Single.{single}
use Rattle.fft.specs.declared.complex.Cx.{Cx}

-- A complex number as the code has it.
abbrev pub cx : Complex Float → Cx
cx z = record { re = z.re; im = z.im }

-- The code's complex number as the definition has it.
abbrev pub complex_of : Cx → Complex Float
complex_of z = record { re = z.re; im = z.im }

-- The first r bins.
abbrev pub bins : ℕ → (ℕ → Complex Float) → List Cx
bins r f = tab r (λ k. cx (f k))

-- Stores four neighbouring numbers.
unfoldable pub put_four : List Float → ℕ → Float → Float → Float → Float → List Float
put_four xs at a b c d = set (set (set (set xs at a) (at + 1) b) (at + 2) c) (at + 3) d

-- Stores four neighbouring complex numbers.
unfoldable pub put_complex : List Float → ℕ → Cx → Cx → Cx → Cx → List Float
put_complex xs at w x y v =
    put_four (put_four xs at w.re x.re y.re v.re) (480 + at) w.im x.im y.im v.im

-- Of r bins of n lanes, those of the first i lanes are in their places.
pub record Laid (r n : ℕ) (g : ℕ → ℕ → Complex Float) (i : ℕ) (held : List Float) : Type 0 where
  pub long : length held ≡ 960
  pub behind : (a b : ℕ) → a < r → b < i → complex_at single held (n * a + b) ≡ g b a

-- Bin k of a lane.
abbrev pub item : List Cx → ℕ → Cx
item w k = get_or w k (record { re = nan; im = nan })

-- Stores the first k bins of four lanes from i on, in a stage of n lanes.
abbrev pub put_bins : ℕ → List Float → ℕ → ℕ → List Cx → List Cx → List Cx → List Cx → List Float
put_bins zero xs n i w x y v = xs
put_bins (suc k) xs n i w x y v =
    put_complex (put_bins k xs n i w x y v) (n * k + i) (item w k) (item x k) (item y k) (item v k)

-- The first i of n numbers are in their places.
pub record Filled (n : ℕ) (f : ℕ → Float) (i : ℕ) (held : List Float) : Type 0 where
  pub long : length held ≡ n
  pub behind : (j : ℕ) → j < i → at held j ≡ f j

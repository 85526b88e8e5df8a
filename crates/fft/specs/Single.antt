-- The transforms as the code computes them: with the operations of f32 and the cosines of `transforms`.
use Rattle.rules.specs.Common.{ℕ, List, Float, nan}
use Rattle.rules.specs.F32.{◌⊕◌, ◌⊖◌, ◌⊗◌, at, f32}
use Rattle.transforms.specs.Cosine.{cosine}
use Rattle.fft.specs.Ops.{Ops}
use Rattle.fft.specs.Fast.{forward_over, inverse_over}

-- The operations of f32.
abbrev pub single : Ops Float
single = record { plus = ◌⊕◌; minus = ◌⊖◌; times = ◌⊗◌; nought = f32 0; two = f32 0x40000000; beyond = nan }

-- The cosines in a table.
abbrev pub of : List Float → ℕ → Float
of table m = at table m

-- The fast forward transform.
unfoldable pub fast_forward : List Float → List Float
fast_forward x = forward_over single (of cosine) x

-- The fast inverse transform.
unfoldable pub fast_inverse : List Float → List Float
fast_inverse x = inverse_over single (of cosine) x

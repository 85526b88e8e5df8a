-- What is claimed of the sums of the transforms, which start from +0: none of them is ever -0. So the product with a
-- zero may be added with either sign. The proofs are in proofs/Sound.antt.
use Rattle.rules.specs.Common.{ℕ, List, Float, binary32}
use Rattle.std.specs.Prelude.{T}
use Rattle.std.specs.Float.Ieee.{fits}
use Rattle.rules.specs.F32.{◌⊕◌, at, f32}
use Rattle.rules.specs.Loop.{loop, range}
use Rattle.floats.specs.Plain.{plain}
use Rattle.transforms.specs.Transform.{forward_step, inverse_step}

-- After n terms of one part of a bin.
abbrev pub ForwardPlain : Type 0
ForwardPlain = (x : List Float) (bin part n : ℕ) → T (plain (loop n (forward_step x bin part) (f32 0)))

-- After the terms of bins 1 to k - 1 of a sample, if bin 0 is an f32.
abbrev pub InversePlain : Type 0
InversePlain = (x : List Float) (sample k : ℕ) → T (fits binary32 (at x 0))
    → T (plain (range 1 k (inverse_step x sample) (f32 0 ⊕ at x 0)))

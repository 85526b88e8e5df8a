-- Without rounding, the fast transforms are the plain sums of request 08: what is claimed. The proofs are in
-- proofs/Exactly.antt and proofs/Same.antt.
use Rattle.std.specs.Prelude.{◌≡◌}
use Rattle.rules.specs.Common.{ℕ, List, Float}
use Rattle.transforms.specs.Cosine.{cosine}
use Rattle.transforms.specs.Transform.{forward_of, inverse_of}
use Rattle.fft.specs.Ops.{Ops}
use Rattle.fft.specs.Exact.{Ring, Cosines}
use Rattle.fft.specs.Fast.{forward_over, inverse_over}
use Rattle.fft.specs.Plain.{plain_forward, plain_inverse}
use Rattle.fft.specs.Single.{single, of}

-- Forward, in every commutative ring, with anything for cosines that obeys their laws.
abbrev pub ForwardIsPlain : Type 1
ForwardIsPlain = (A : Type 0) (o : Ops A) (R : Ring o) (c : ℕ → A) → Cosines o R.one c → (x : List A)
    → forward_over o c x ≡ plain_forward o c x

-- The same for the inverse.
abbrev pub InverseIsPlain : Type 1
InverseIsPlain = (A : Type 0) (o : Ops A) (R : Ring o) (c : ℕ → A) → Cosines o R.one c → (x : List A)
    → inverse_over o c x ≡ plain_inverse o c x

-- With the operations of f32 and its table, these plain sums are those of `transforms`.
abbrev pub SameForward : Type 0
SameForward = (x : List Float) → plain_forward single (of cosine) x ≡ forward_of x

-- The same for the inverse.
abbrev pub SameInverse : Type 0
SameInverse = (x : List Float) → plain_inverse single (of cosine) x ≡ inverse_of x

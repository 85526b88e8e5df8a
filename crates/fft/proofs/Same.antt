-- With the operations of f32 and the table of `transforms`, the plain sums are the definitions of `transforms`.
-- Assumes nothing.
use mathlib.Core.Path.{refl}
use Rattle.transforms.specs.Transform.{forward_of, inverse_of}
use Rattle.fft.specs.Laws.{SameForward, SameInverse}
use Rattle.fft.specs.Plain.{plain_forward, plain_inverse}

pub same_forward : SameForward
unfolding plain_forward forward_of
same_forward x = refl

pub same_inverse : SameInverse
unfolding plain_inverse inverse_of
same_inverse x = refl

-- The DCT's scale, computed from the definition of the root. Assumes nothing.
use mathlib.Core.Path.{refl}
use lib.Ieee.{of_bits, div}
use Rattle.numbers.specs.Root.{root}
use Rattle.bands.specs.Laws.{ScaleIs}
use Rattle.bands.specs.Dct.{dct_scale}

pub scale_is : ScaleIs
unfolding dct_scale root of_bits div
scale_is = refl

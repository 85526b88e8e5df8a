-- The norm, computed: the sum is 480 and the norm's bit pattern 3B088889. Assumes nothing.
use mathlib.Core.Path.{refl}
use lib.Ieee.{neg, of_bits, add, mul, div}
use Rattle.bands.specs.Laws.{NormIs}
use Rattle.bands.specs.Window.{window, window_bits}
use Rattle.bands.specs.Norm.{sum_squares, wnorm}

pub wnorm_is : NormIs
unfolding wnorm sum_squares window window_bits neg of_bits add mul div
wnorm_is = refl

-- The two ways of a bench: our own lag and the plain sums (requests 04 and 08), or nnnoiseless's finder and
-- the fast transforms.
use Rattle.std.specs.Prelude.{◌∷◌}
use Rattle.rules.specs.Common.{ℕ, List, [], pos, Float, binary32, of_int}
use Rattle.rules.specs.F32.{at}
use Rattle.rules.specs.Place.{get, put}
use Rattle.lag.specs.Lag.{own_lag}
use Rattle.finder.specs.Finder.{find}
use Rattle.finder.specs.declared.Pitch.{Pitch}
use Rattle.transforms.specs.Transform.{forward_of, inverse_of}
use Rattle.fft.specs.Single.{fast_forward, fast_inverse}
use Rattle.frame.specs.Share.{input_mem, finder_mem}
use Rattle.frame.specs.declared.Way.{Way}
use Rattle.frame.specs.declared.Way.TheVariants.{Own, Nnnoiseless}

-- What the finder gives for a frame's part of the share, with the last period and the last gain that are kept
-- there.
abbrev pub found : List Float → Pitch
found part = find (at (get finder_mem part) 0) (at (get finder_mem part) 1) (get input_mem part)

unfoldable pub lag_by : Way → List Float → ℕ
lag_by Own part = own_lag (get input_mem part)
lag_by Nnnoiseless part = (found part).period

-- The finder remembers its period and its gain. Our own lag remembers nothing.
unfoldable pub remembered : Way → List Float → List Float
remembered Own part = part
remembered Nnnoiseless part = put finder_mem part (of_int binary32 (pos (found part).period) ∷ (found part).gain ∷ [])

-- The spectrum of 960 samples, and the samples of a spectrum.
unfoldable pub forward_by : Way → List Float → List Float
forward_by Own samples = forward_of samples
forward_by Nnnoiseless samples = fast_forward samples

unfoldable pub inverse_by : Way → List Float → List Float
inverse_by Own spectrum = inverse_of spectrum
inverse_by Nnnoiseless spectrum = fast_inverse spectrum

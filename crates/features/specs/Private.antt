-- For the contracts of private functions.
use Rattle.rules.specs.Common.{Float}
use Rattle.features.specs.Cepstra.{smoothed, slope, bend}
use Rattle.features.specs.declared.cepstra.Delta.{Delta}
use Rattle.features.specs.declared.cepstra.Delta.TheVariants.{Smoothed, Slope, Bend}

-- What the code's `Delta` stands for.
abbrev pub delta_of : Delta → Float → Float → Float → Float
delta_of Smoothed = smoothed
delta_of Slope = slope
delta_of Bend = bend

-- The numbers to try, computed. Assumes nothing.
use mathlib.Core.Path.{refl}
use lib.Ieee.{is_nan, lt, of_bits, neg, add, sub, mul, of_int, to_unsigned}
use Rattle.numbers.specs.Activations.{tansig_in, sigmoid_in}
use Rattle.numbers.specs.Root.{root}
use Rattle.numbers.specs.Tansig.{tansig}
use Rattle.model.specs.Model.{read_layers, refusing_layers, read_of}
use Rattle.features.specs.Silence.{sound_of}
use Rattle.starred.specs.Starred.{Starred}

pub starred : Starred
unfolding tansig_in sigmoid_in tansig root is_nan lt of_bits neg add sub mul of_int to_unsigned read_of read_layers
    refusing_layers sound_of
starred = (refl, refl, refl, refl, refl, refl)

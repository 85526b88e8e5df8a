-- What both ways have in common: a lag that call 2 takes (`lag_fits`), the lengths of a spectrum and of its samples,
-- and that the finder's two numbers alone are written (`remembered_beside`). Assumes nothing.
use Rattle.std.specs.Prelude.{◌≤◌, ◌≡◌}
use Rattle.rules.proofs.Common.{List, refl, length, Float}
use native.Mathlib.Omega.{arith}
use mathlib.Core.Logic.{inl}
use Rattle.rules.specs.F32.{at}
use Rattle.rules.specs.Place.{Place, get}
use Rattle.rules.proofs.Places.{Apart}
use Rattle.rules.proofs.Lists.{length_tab}
use Rattle.lag.proofs.Ranges.{in_range_lem}
use Rattle.finder.proofs.Ranges.{period_in_range}
use Rattle.transforms.specs.Transform.{forward_of, inverse_of}
use Rattle.fft.specs.Fast.{forward_over, inverse_over}
use Rattle.fft.specs.Single.{fast_forward, fast_inverse}
use Rattle.frame.specs.Share.{PART, input_mem, finder_mem}
use Rattle.frame.specs.declared.Way.{Way}
use Rattle.frame.specs.declared.Way.TheVariants.{Own, Nnnoiseless}
use Rattle.frame.proofs.Beside.{Beside, put_beside}
use Rattle.frame.proofs.Keeps.{end}
use Rattle.halves.specs.Ways.{lag_by, remembered, forward_by, inverse_by}

pub lag_fits : (way : Way) (part : List Float) → lag_by way part ≤ 768
unfolding lag_by
lag_fits Own part = (in_range_lem (get input_mem part)).1
lag_fits Nnnoiseless part =
    omega (arith, (period_in_range (at (get finder_mem part) 0) (at (get finder_mem part) 1) (get input_mem part)).1)

pub length_forward : (way : Way) (samples : List Float) → length (forward_by way samples) ≡ 961
unfolding forward_by forward_of fast_forward forward_over
length_forward Own samples = length_tab 961 _
length_forward Nnnoiseless samples = length_tab 961 _

pub length_inverse : (way : Way) (spectrum : List Float) → length (inverse_by way spectrum) ≡ 960
unfolding inverse_by inverse_of fast_inverse inverse_over
length_inverse Own spectrum = length_tab 960 _
length_inverse Nnnoiseless spectrum = length_tab 960 _

pub remembered_beside : (q : Place) (part : List Float) (way : Way) → Apart finder_mem q → length part ≡ PART
    → Beside q part (remembered way part)
unfolding remembered
remembered_beside q part Own apart whole = record { size = whole; same = refl }
remembered_beside q part Nnnoiseless apart whole = put_beside q finder_mem part _ (omega arith) apart whole refl

pub whole_remembered : (part : List Float) (way : Way) → length part ≡ PART → length (remembered way part) ≡ PART
whole_remembered part way whole = (remembered_beside end part way (inl (omega arith)) whole).size

-- The remembered gains over heard frames: what specs/Laws.antt claims. Assumes nothing.
use Rattle.std.specs.Prelude.{◌∷◌, ◌≡◌}
use Rattle.rules.proofs.Common.{ℕ, zero, suc, true, [], length, Float, le}
use Rattle.rules.specs.F32.{at}
use Rattle.features.specs.Gains.{six_tenths}
use Rattle.features.proofs.Remembered.{never_nan, at_least_held}
use Rattle.memory.specs.Hear.{hear, heard_all, faded}
use Rattle.memory.specs.Laws.{HeldGains}
use Rattle.floats.proofs.Order.{le_refl, le_trans}
use Rattle.features.proofs.Order.{six_tenths_mono}

faded_mono : (k : ℕ) (x y : Float) → le x y ≡ true → le (faded k x) (faded k y) ≡ true
unfolding faded
faded_mono zero x y h = h
faded_mono (suc k) x y h = faded_mono k (six_tenths x) (six_tenths y) (six_tenths_mono x y h)

pub held_gains_lem : HeldGains
unfolding hear heard_all faded
held_gains_lem i band [] m number = (number, le_refl (at m.gains i) number)
held_gains_lem i band (f ∷ fs) m number =
    let rest = held_gains_lem i band fs (hear m f) (never_nan _ m.gains i band number) in
    let first = faded_mono (length fs) (six_tenths (at m.gains i)) (at (hear m f).gains i)
    (at_least_held _ m.gains i band number) in
    (rest.0, le_trans _ _ _ first rest.1)

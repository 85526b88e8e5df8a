-- The fields of a whole share have their sizes. Said here, where no function's facts are in reach, they cost nothing.
-- Assumes nothing.
use Rattle.std.specs.Prelude.{◌+◌, ◌-◌, ◌≤◌, ◌<◌, ◌≡◌}
use Rattle.rules.proofs.Common.{ℕ, List, sym, ap, ◌∙◌, length, take, drop, Float}
use native.Mathlib.Nat.{zero-add}
use native.Mathlib.Omega.{arith}
use lib.Seq.{get_or-take, get_or-drop}
use Rattle.rules.specs.F32.{at}
use Rattle.rules.specs.Place.{Place, get}
use Rattle.rules.proofs.Places.{length_get, get_get}
use Rattle.frame.specs.Share.{PART, input_mem, kept_x, kept_ex, kept_lag, cepstral_mem}
use Rattle.frame.specs.Frame.{recent}

-- a place, number by number
pub at_get : (p : Place) (xs : List Float) (i : ℕ) → i < p.size → at (get p xs) i ≡ at xs (p.at + i)
unfolding get
at_get p xs i h = rw (get_or-take, get_or-drop)

module _ (share : List Float) (whole : length share ≡ PART) where
  sized : (p : Place) → p.at + p.size ≤ PART → length (get p share) ≡ p.size
  sized p h = length_get p share (omega arith)

  pub x_size : length (get kept_x share) ≡ 961
  x_size = sized kept_x (omega arith)

  pub ex_size : length (get kept_ex share) ≡ 22
  ex_size = sized kept_ex (omega arith)

  pub cepstra_size : length (get cepstral_mem share) ≡ 176
  cepstra_size = sized cepstral_mem (omega arith)

pub lag_at : (share : List Float) → at (get kept_lag share) 0 ≡ at share 3191
lag_at share = at_get kept_lag share 0 (omega arith)

-- the part of the share that the code lends is the part of the input memory
pub looked_at : (share : List Float) (lag : ℕ) → length share ≡ PART → lag ≤ 768
    → take (768 - lag + 960 - (768 - lag)) (drop (768 - lag) share) ≡ get (recent lag) (get input_mem share)
unfolding get
looked_at share lag l h =
    let size : 768 - lag + 960 - (768 - lag) ≡ 960 = omega arith in
    rw size
    (ap (λ (n : ℕ). take 960 (drop n share)) (sym (zero-add (768 - lag)))
    ∙ sym (get_get input_mem (recent lag) share (omega arith) (omega arith)))

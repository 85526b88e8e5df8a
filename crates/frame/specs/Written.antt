-- What a call writes to a lent buffer, whatever the buffer held before. Laws: proofs/Buffers.antt.
use Rattle.std.specs.Prelude.{◌∷◌, ◌++◌}
use Rattle.rules.specs.Common.{ℕ, List, [], length, get_or, drop, Float}
use Rattle.rules.specs.Place.{put}

-- `all`: the whole buffer becomes these numbers. `from`: these numbers are written from a place on, and the
-- rest stays. `front`: these whole numbers (bytes, entries) are written to the front of a buffer of whole
-- numbers, and the rest stays.
pub data Written : Type 0 where
  all : (numbers : List Float) → Written
  from : (at : ℕ) (numbers : List Float) → Written
  front : (wholes : List ℕ) → Written

abbrev pub nothing : Written
nothing = from 0 []

-- The floats that are written, the whole numbers that are written, and the floats that a call writes to its
-- first buffer.
abbrev pub numbers_in : Written → List Float
numbers_in (all numbers) = numbers
numbers_in (from at numbers) = numbers
numbers_in (front wholes) = []

abbrev pub wholes_in : Written → List ℕ
wholes_in (all numbers) = []
wholes_in (from at numbers) = []
wholes_in (front wholes) = wholes

abbrev pub first_in : List Written → List Float
first_in ws = numbers_in (get_or ws 0 nothing)

-- A buffer of floats after the call, if it held `held` before.
abbrev pub over : Written → List Float → List Float
over (all numbers) held = numbers
over (from at numbers) held = put (record { at = at; size = length numbers }) held numbers
over (front wholes) held = held

-- The buffers of floats that a call was lent, in order. A refusal writes to none.
abbrev pub onto : List Written → List (List Float) → List (List Float)
onto [] held = held
onto (w ∷ ws) [] = []
onto (w ∷ ws) (h ∷ hs) = over w h ∷ onto ws hs

-- A buffer of whole numbers after the call, and all buffers of whole numbers that it was lent, in order.
abbrev pub at_front : List ℕ → List ℕ → List ℕ
at_front new held = new ++ drop (length new) held

abbrev pub fronts : List Written → List (List ℕ) → List (List ℕ)
fronts [] held = held
fronts (w ∷ ws) [] = []
fronts (w ∷ ws) (h ∷ hs) = at_front (wholes_in w) h ∷ fronts ws hs

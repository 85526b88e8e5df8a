-- The test for silence, from `compute_frame_features` of features.rs.
use Rattle.std.specs.Prelude.{◌∷◌}
use Rattle.std.specs.Prelude.{Result, Ok, Err, Option, Some, None}
use Rattle.rules.specs.Common.{ℕ, Bool, cond, List, [], Float, lt}
use Rattle.rules.specs.Loop.{loop}
use Rattle.rules.specs.F32.{◌⊕◌, at, f32}
use Rattle.rules.specs.Refusal.{told}
use Rattle.rules.specs.declared.refusal.Refusal.{Refusal}

-- An answer of `listen`: the energy of a frame that is heard, nothing for a silent one, or a refusal.
abbrev pub Sound : Type 0
Sound = Result (Option Float) Refusal

-- Rust: e += ex[i].
abbrev pub energy_step : List Float → ℕ → Float → Float
energy_step ex i e = e ⊕ at ex i

-- The sum of the band energies.
unfoldable pub energy : List Float → Float
energy ex = loop 22 (energy_step ex) (f32 0)

-- Rust: e < 0.04. A NaN is not silent.
abbrev pub is_silent : Float → Bool
is_silent e = lt e (f32 0x3D23D70A)

-- The number that document 01 gives an answer: 0, or the number of the refusal.
abbrev pub sound_number : Sound → ℕ
sound_number sound = told sound

-- The values that document 01 gives an answer: the sum of the energies of a heard frame.
abbrev pub sound_values : Sound → List Float
sound_values (Ok (Some e)) = e ∷ []
sound_values (Ok None) = []
sound_values (Err refusal) = []

-- Whether a frame with this sum of energies is heard: the sum, or nothing.
unfoldable pub sound_of : Float → Option Float
sound_of e = cond (is_silent e) None (Some e)

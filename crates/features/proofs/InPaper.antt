-- What document 01 says of silent and heard. Assumes nothing.
use Rattle.std.specs.Prelude.{◌∷◌, ◌≡◌, Ok, Some, None}
use Rattle.rules.proofs.Common.{Bool, true, false, cond, [], refl}
use Rattle.features.specs.Silence.{Sound, is_silent, sound_number, sound_values, sound_of}
use Rattle.features.specs.Laws.{SoundInPaper}

pub sound_in_paper : SoundInPaper
unfolding sound_of
sound_in_paper e = go (is_silent e)
  where
    go : (t : Bool) → let s : Sound = Ok (cond t None (Some e)) in
        (sound_number s ≡ 0) × (sound_values s ≡ cond t [] (e ∷ []))
    go true = (refl, refl)
    go false = (refl, refl)

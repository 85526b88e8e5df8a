-- A frame is silent or heard, as its sound says. Assumes nothing.
use Rattle.std.specs.Prelude.{Some, None, ◌∷◌, ◌≡◌}
use Rattle.rules.proofs.Common.{ℕ, Bool, true, false, cond, List, [], refl, ap}
use Rattle.rules.proofs.Common.{Float}
use Rattle.rules.specs.Place.{get}
use Rattle.features.specs.Silence.{energy, is_silent, sound_of}
use Rattle.model.specs.declared.Model.{Model}
use Rattle.frame.specs.Reply.{Silent, Heard}
use Rattle.frame.specs.Share.{kept_x, kept_ex}
use Rattle.frame.specs.Heard.{Spoken, spoken}
use Rattle.frame.specs.Effect.{Worked}
use Rattle.frame.specs.Frame.{silent, heard, done3}
use Rattle.frame.specs.Private.{spoken_as}

module _ (share : List Float) (index : ℕ) (spectrum logs : List Float) (bytes : List ℕ) (m : Model)
    (held : List Float) where
  abbrev whole : Spoken
  whole = spoken share index spectrum logs bytes m

  abbrev sum : Float
  sum = energy (get kept_ex share)

  pub is_silent_lem : {out : List Float} → None ≡ sound_of sum → out ≡ get kept_x share
      → Worked (done3 share index spectrum logs bytes m) Silent share (held ∷ []) (out ∷ [])
  unfolding done3 sound_of
  is_silent_lem {out} e x = go (is_silent sum) e
    where
      go : (t : Bool) → None ≡ cond t None (Some sum)
          → Worked (cond t (silent share) (heard sum whole)) Silent share (held ∷ []) (out ∷ [])
      go true h = record { answers = refl; keeps = refl; writes = ap (λ (l : List Float). l ∷ []) x }
      go false h = cc

  pub is_heard_lem : {after out : List Float} {voice energy : Float} → Some energy ≡ sound_of sum
      → spoken_as after voice out ≡ whole
      → Worked (done3 share index spectrum logs bytes m) (Heard voice energy) after (held ∷ []) (out ∷ [])
  unfolding done3 sound_of
  is_heard_lem {after} {out} {voice} {energy} e x = rw (← x) (go (is_silent sum) e)
    where
      go : (t : Bool) → Some energy ≡ cond t None (Some sum)
          → Worked (cond t (silent share) (heard sum (spoken_as after voice out))) (Heard voice energy) after
          (held ∷ []) (out ∷ [])
      go true h = cc
      go false h = rw (sound_heard h) (record { answers = refl; keeps = refl; writes = refl })
        where
          sound_heard : Some energy ≡ Some sum → energy ≡ sum
          sound_heard k = cc

-- A heard frame's stages, put together: from what each call leaves to the definition. Assumes nothing.
use Rattle.std.specs.Prelude.{◌+◌, ◌≤◌, ◌++◌, ◌≡◌}
use Rattle.rules.proofs.Common.{ℕ, List, refl, ap, ◌∙◌, length, length-append, Float}
use native.Mathlib.Omega.{arith}
use Rattle.rules.specs.F32.{at}
use Rattle.rules.specs.Place.{Place, get, put}
use Rattle.rules.proofs.Places.{length_get, get_get, put_next}
use Rattle.bands.specs.Bands.{band_gain}
use Rattle.model.specs.declared.Model.{Model}
use Rattle.network.specs.Compute.{layers_in_place, vad_in, noise_in, denoise_in, layered_on}
use Rattle.network.proofs.States.{fit_on, side_by_side, vad_place, noise_place, denoise_place, vad_in_lem, noise_in_lem}
use Rattle.network.proofs.States.{denoise_in_lem}
use Rattle.features.specs.Pitch.{pitch_filtered, applied}
use Rattle.frame.specs.Share.{PART, kept_x, kept_ex, lastg, vad_state, noise_state, denoise_state}
use Rattle.frame.specs.Heard.{featured, rnn_of, held_gains, spoken_from}
use Rattle.frame.specs.Private.{featured_as, rnn_as, spoken_as}

-- the three states, as they stand in the share and are lent to the network
abbrev pub states : Place
states = record { at = 3392; size = 384 }

-- two writes to places that meet are one
next : (a k j : ℕ) (xs ys zs : List Float) → length ys ≡ k → length zs ≡ j → a ≤ length xs
    → put (record { at = a + k; size = j }) (put (record { at = a; size = k }) xs ys) zs
    ≡ put (record { at = a; size = k + j }) xs (ys ++ zs)
next a k j xs ys zs ly lz h = rw (← ly, ← lz, ← length-append ys zs) (put_next a xs ys zs h)

module _ (share : List Float) (bytes : List ℕ) (m : Model) where
  -- the states were lent as one, and came back as s
  pub thought : (features s : List Float) {gains voice : List Float} → length share ≡ PART → length s ≡ 384
      → layered_on gains voice s
      ≡ layers_in_place bytes m (vad_in (get states share)) (noise_in (get states share))
      (denoise_in (get states share)) features
      → rnn_as (put states share s) gains (at voice 0) ≡ rnn_of share features bytes m
  unfolding rnn_of
  thought features s whole size left =
      let v = vad_in s in
      let n = noise_in s in
      let d = denoise_in s in
      let fit = fit_on s {gains = 22} {voice = 1} {features = 42} refl refl size refl in
      let two : length (v ++ n) ≡ 256 = simp length-append (omega (arith, fit.first, fit.second)) in
      let back : put denoise_state (put noise_state (put vad_state share v) n) d ≡ put states share s =
      ap (λ (t : List Float). put denoise_state t d)
      (next 3392 128 128 share v n fit.first fit.second (omega arith))
      ∙ next 3392 256 128 share (v ++ n) d two fit.third (omega arith)
      ∙ ap (put states share) (side_by_side s) in
      let had_v : vad_in (get states share)
      ≡ get vad_state share = vad_in_lem _ ∙ get_get states vad_place share (omega arith) (omega arith) in
      let had_n : noise_in (get states share)
      ≡ get noise_state share = noise_in_lem _ ∙ get_get states noise_place share (omega arith) (omega arith) in
      let had_d : denoise_in (get states share) ≡ get denoise_state share =
      denoise_in_lem _ (length_get states share (omega arith))
      ∙ get_get states denoise_place share (omega arith) (omega arith) in
      rw (← had_v, ← had_n, ← had_d, ← left, back)

  pub spoke : (index : ℕ) (p ep logs : List Float)
      {out ex sensed features exp thinking gains after written : List Float} {voice : Float}
      → out ≡ get kept_x share → ex ≡ get kept_ex share
      → featured_as sensed features exp ≡ featured share index p ep logs
      → rnn_as thinking gains voice ≡ rnn_of sensed features bytes m
      → after ≡ put lastg thinking (held_gains thinking gains)
      → written ≡ applied (pitch_filtered out p gains exp ex ep) (band_gain (held_gains thinking gains))
      → spoken_as after voice written ≡ spoken_from share index p ep logs bytes m
  unfolding spoken_from
  spoke index p ep logs hout hex sense think hold apply = rw (← hout, ← hex, ← sense, ← think, hold, apply)

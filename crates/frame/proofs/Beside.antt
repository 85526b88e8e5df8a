-- What the calls leave alone: a share keeps its length, and a place that lies apart from the written ones keeps its
-- numbers. Assumes nothing.
use Rattle.std.specs.Prelude.{◌+◌, ◌≤◌, ◌∷◌, ◌≡◌}
use Rattle.rules.proofs.Common.{ℕ, List, [], refl, ap, ◌∙◌, length, replicate, length-append, Float}
use native.Mathlib.Omega.{arith}
use Rattle.rules.specs.F32.{f32}
use Rattle.rules.specs.Place.{Place, get, put}
use Rattle.rules.proofs.Places.{Apart, length_get, length_put, get_put_apart}
use Rattle.rules.proofs.Lists.{length_tab}
use Rattle.numbers.specs.Filter.{high_pass, outputs}
use Rattle.numbers.proofs.Outputs.{length_outputs}
use Rattle.bands.proofs.Results.{length_corr}
use Rattle.model.specs.Model.{read_of}
use Rattle.model.specs.declared.Model.{Model}
use Rattle.model.specs.Reading.{Good}
use Rattle.network.specs.Compute.{Outcome, layers_in_place}
use Rattle.network.specs.Private.{Lengths}
use Rattle.network.proofs.Callers.{computed_done, kept}
use Rattle.features.specs.Features.{with_cepstrum}
use Rattle.features.proofs.Lengths.{length_gained, length_with_cepstrum, length_features}
use Rattle.frame.specs.Share.{PART, input_mem, synthesis_mem, kept_x, kept_ex, kept_lag, mem_hp_x, lastg, cepstral_mem}
use Rattle.frame.specs.Share.{vad_state, noise_state, denoise_state}
use Rattle.numbers.specs.Filter.{memory_of}
use Rattle.frame.specs.Heard.{scaled, energies, featured, rnn_of, spoken_from, spoken}
use Rattle.frame.specs.Frame.{shifted, done1, put_kept, window_buf, later_half, done4}

-- the place lies apart from each of these
abbrev pub AllApart : List Place → Place → Type 0
AllApart [] q = Unit {0}
AllApart (p ∷ ps) q = Apart p q × AllApart ps q

pub record Beside (q : Place) (share after : List Float) : Type 0 where
  pub size : length after ≡ PART
  pub same : get q after ≡ get q share

module _ (q : Place) where
  pub put_beside : (p : Place) (share ys : List Float) → p.at + p.size ≤ PART → Apart p q → length share ≡ PART
      → length ys ≡ p.size → Beside q share (put p share ys)
  put_beside p share ys inside apart whole l =
      record {
        size = length_put p share ys (omega arith) l ∙ whole;
        same = get_put_apart p q share ys (omega arith) l apart;
      }

  pub then : {a b c : List Float} → Beside q a b → Beside q b c → Beside q a c
  then h k = record { size = k.size; same = k.same ∙ h.same }

  pub done1_beside : (share samples : List Float) → AllApart (input_mem ∷ mem_hp_x ∷ []) q → length share ≡ PART
      → length samples ≡ 480
      → Beside q share (done1 share samples).kept
  unfolding shifted
  done1_beside share samples apart whole l =
      let out = outputs high_pass (memory_of (get mem_hp_x share)) samples in
      let new : length (shifted (get input_mem share) out) ≡ 1728 =
      simp (length-append, length_tab, length_outputs) (omega arith) in
      let one = put_beside input_mem share (shifted (get input_mem share) out) (omega arith) apart.0 whole new in
      then one (put_beside mem_hp_x (put input_mem share (shifted (get input_mem share) out)) _ (omega arith) apart.1.0
      one.size refl)

  pub done2_beside : (share spectrum : List Float) (lag : ℕ) → AllApart (kept_x ∷ kept_ex ∷ kept_lag ∷ []) q
      → length share ≡ PART
      → Beside q share (put_kept share spectrum lag)
  unfolding put_kept energies scaled
  done2_beside share spectrum lag apart whole =
      let x = scaled spectrum in
      let one = put_beside kept_x share x (omega arith) apart.0 whole (length_tab 961 _) in
      let two =
      then one (put_beside kept_ex (put kept_x share x) (energies spectrum) (omega arith) apart.1.0 one.size
      (length_corr x x)) in
      then two (put_beside kept_lag (put kept_ex (put kept_x share x) (energies spectrum)) _ (omega arith) apart.1.1.0
      two.size refl)

  pub done4_beside : (share inverse : List Float) → AllApart (synthesis_mem ∷ []) q → length share ≡ PART
      → Beside q share (done4 share inverse).kept
  unfolding later_half
  done4_beside share inverse apart whole =
      put_beside synthesis_mem share (later_half (window_buf inverse)) (omega arith) apart.0 whole (length_tab 480 _)

  -- ---- a heard frame

  -- the three states of 128 places
  states_beside : (share v n d : List Float) → AllApart (vad_state ∷ noise_state ∷ denoise_state ∷ []) q
      → length share ≡ PART
      → length v ≡ 128 → length n ≡ 128 → length d ≡ 128
      → Beside q share (put denoise_state (put noise_state (put vad_state share v) n) d)
  states_beside share v n d apart whole a b c =
      let one = put_beside vad_state share v (omega arith) apart.0 whole a in
      let two = then one (put_beside noise_state (put vad_state share v) n (omega arith) apart.1.0 one.size b) in
      then two (put_beside denoise_state (put noise_state (put vad_state share v) n) d (omega arith) apart.1.1.0
      two.size c)

  rnn_beside : (share features : List Float) (bytes : List ℕ) (m : Model)
      → AllApart (vad_state ∷ noise_state ∷ denoise_state ∷ []) q
      → read_of bytes ≡ Good m → length share ≡ PART → length features ≡ 42
      → Beside q share (rnn_of share features bytes m).share
  unfolding rnn_of
  rnn_beside share features bytes m apart good whole few =
      let v = get vad_state share in
      let n = get noise_state share in
      let d = get denoise_state share in
      let lv = length_get vad_state share (omega arith) in
      let ln = length_get noise_state share (omega arith) in
      let ld = length_get denoise_state share (omega arith) in
      let g = replicate 22 (f32 0) in
      let a = replicate 1 (f32 0) in
      let fit : Lengths (length g) (length a) (length v) (length n) (length d) (length features) =
      record { gained = refl; voiced = refl; first = lv; second = ln; third = ld; featured = few } in
      let done =
      computed_done g a v n d bytes features fit {m = m} {left = layers_in_place bytes m v n d features} good refl in
      let k = kept g a v n d bytes features in
      states_beside share _ _ _ apart whole
      (ap (λ (o : Outcome). length o.layers.vad) done ∙ k.first ∙ lv)
      (ap (λ (o : Outcome). length o.layers.noise) done ∙ k.second ∙ ln)
      (ap (λ (o : Outcome). length o.layers.denoise) done ∙ k.third ∙ ld)

  -- before the gains are remembered
  pub sensed_beside : (share : List Float) (index : ℕ) (p ep logs : List Float) (bytes : List ℕ) (m : Model)
      → AllApart (cepstral_mem ∷ vad_state ∷ noise_state ∷ denoise_state ∷ []) q → read_of bytes ≡ Good m
      → length share ≡ PART → index ≤ 7
      → let f = featured share index p ep logs in Beside q share (rnn_of f.share f.features bytes m).share
  unfolding featured
  sensed_beside share index p ep logs bytes m apart good whole inside =
      let mem = get cepstral_mem share in
      let row = length_with_cepstrum logs mem index (length_get cepstral_mem share (omega arith)) inside in
      let one = put_beside cepstral_mem share (with_cepstrum logs mem index) (omega arith) apart.0 whole row in
      then one (rnn_beside (put cepstral_mem share (with_cepstrum logs mem index)) _ bytes m apart.1 good one.size
      (length_features _ _ _ _ _))

  pub done3_beside : (share : List Float) (index : ℕ) (spectrum logs : List Float) (bytes : List ℕ) (m : Model)
      → AllApart (lastg ∷ cepstral_mem ∷ vad_state ∷ noise_state ∷ denoise_state ∷ []) q → read_of bytes ≡ Good m
      → length share ≡ PART → index ≤ 7
      → Beside q share (spoken share index spectrum logs bytes m).share
  unfolding spoken_from
  done3_beside share index spectrum logs bytes m apart good whole inside =
      let one =
      sensed_beside share index (scaled spectrum) (energies spectrum) logs bytes m apart.1 good whole inside in
      then one (put_beside lastg _ _ (omega arith) apart.0 one.size (length_gained _ _))

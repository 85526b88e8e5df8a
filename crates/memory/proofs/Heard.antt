-- A heard frame on a share: what is remembered then is what `hear` makes of what was remembered before.
-- Assumes nothing.
use Rattle.std.specs.Prelude.{◌+◌, ◌≤◌, ◌≡◌}
use Rattle.rules.proofs.Common.{ℕ, List, refl, ap, ◌∙◌, length, Float}
use native.Mathlib.Omega.{arith}
use mathlib.Core.Logic.{inl, inr}
use Rattle.rules.specs.F32.{at, zeros}
use Rattle.rules.specs.Place.{Place, get, put}
use Rattle.rules.proofs.Places.{Apart, length_get, length_put, get_put, get_put_apart}
use Rattle.model.specs.Model.{read_of}
use Rattle.model.specs.declared.Model.{Model}
use Rattle.model.specs.Reading.{Good}
use Rattle.network.specs.Compute.{Layered, Outcome, layers_in_place, computed}
use Rattle.network.specs.Private.{Lengths}
use Rattle.network.proofs.Callers.{computed_done, kept}
use Rattle.features.specs.Features.{normalised_corr, features_of, with_cepstrum}
use Rattle.features.specs.Gains.{gained}
use Rattle.features.proofs.Lengths.{length_gained, length_with_cepstrum, length_features}
use Rattle.frame.specs.Share.{PART, kept_x, kept_ex, kept_lag, lastg, cepstral_mem, vad_state, noise_state}
use Rattle.frame.specs.Share.{denoise_state}
use Rattle.frame.specs.Heard.{scaled, energies, featured, rnn_of, spoken_from, spoken}
use Rattle.memory.specs.Hear.{Recalled, next_place, hear}
use Rattle.memory.specs.Brought.{recalled_in, heard_frame}
use Rattle.memory.proofs.Kept.{noted_in}

-- ---- a field put into a whole share, and five one after another

module _ (p : Place) (xs ys : List Float) (inside : p.at + p.size ≤ PART) (whole : length xs ≡ PART)
    (l : length ys ≡ p.size) where
  still_whole : length (put p xs ys) ≡ PART
  still_whole = length_put p xs ys (omega arith) l ∙ whole

  here : get p (put p xs ys) ≡ ys
  here = get_put p xs ys (omega arith) l

  beside : (q : Place) → Apart p q → get q (put p xs ys) ≡ get q xs
  beside q apart = get_put_apart p q xs ys (omega arith) l apart

module _ (share c v n d : List Float) (whole : length share ≡ PART)
    (lc : length c ≡ 176) (lv : length v ≡ 128) (ln : length n ≡ 128) (ld : length d ≡ 128) where
  abbrev with_c : List Float
  with_c = put cepstral_mem share c

  abbrev with_v : List Float
  with_v = put vad_state with_c v

  abbrev with_n : List Float
  with_n = put noise_state with_v n

  abbrev with_d : List Float
  with_d = put denoise_state with_n d

  c_whole : length with_c ≡ PART
  c_whole = still_whole cepstral_mem share c (omega arith) whole lc

  v_whole : length with_v ≡ PART
  v_whole = still_whole vad_state with_c v (omega arith) c_whole lv

  n_whole : length with_n ≡ PART
  n_whole = still_whole noise_state with_v n (omega arith) v_whole ln

  d_whole : length with_d ≡ PART
  d_whole = still_whole denoise_state with_n d (omega arith) n_whole ld

  past_c : (q : Place) → Apart cepstral_mem q → get q with_c ≡ get q share
  past_c = beside cepstral_mem share c (omega arith) whole lc

  past_v : (q : Place) → Apart vad_state q → get q with_v ≡ get q with_c
  past_v = beside vad_state with_c v (omega arith) c_whole lv

  past_n : (q : Place) → Apart noise_state q → get q with_n ≡ get q with_v
  past_n = beside noise_state with_v n (omega arith) v_whole ln

  past_d : (q : Place) → Apart denoise_state q → get q with_d ≡ get q with_n
  past_d = beside denoise_state with_n d (omega arith) n_whole ld

  -- a place in front of the states
  past_states : (q : Place) → q.at + q.size ≤ vad_state.at → get q with_d ≡ get q with_c
  past_states q h = past_d q (inr (omega arith)) ∙ past_n q (inr (omega arith)) ∙ past_v q (inr h)

  old_gains : get lastg with_d ≡ get lastg share
  old_gains = past_states lastg (omega arith) ∙ past_c lastg (inr (omega arith))

  all_put : (g : List Float) → length g ≡ 22 → (index : ℕ)
      → recalled_in index (put lastg with_d g)
      ≡ record { gains = g; cepstra = c; index = index; vad = v; noise = n; denoise = d }
  all_put g lg index =
      let past_g : (q : Place) → lastg.at + lastg.size ≤ q.at → get q (put lastg with_d g) ≡ get q with_d
      = λ q h. beside lastg with_d g (omega arith) d_whole lg q (inl h) in
      let g-is = here lastg with_d g (omega arith) d_whole lg in
      let c-is = past_g cepstral_mem (omega arith) ∙ past_states cepstral_mem (omega arith)
      ∙ here cepstral_mem share c (omega arith) whole lc in
      let v-is =
      past_g vad_state (omega arith)
      ∙ past_d vad_state (inr (omega arith))
      ∙ past_n vad_state (inr (omega arith))
      ∙ here vad_state with_c v (omega arith) c_whole lv in
      let n_is = past_g noise_state (omega arith) ∙ past_d noise_state (inr (omega arith))
      ∙ here noise_state with_v n (omega arith) v_whole ln in
      let d-is = past_g denoise_state (omega arith) ∙ here denoise_state with_n d (omega arith) n_whole ld in
      cc (g-is, c-is, v-is, n_is, d-is)

-- ---- a heard frame

module _ (share : List Float) (index : ℕ) (p logs : List Float) (bytes : List ℕ) (m : Model)
    (good : read_of bytes ≡ Good m) (whole : length share ≡ PART) (inside : index ≤ 7) where
  abbrev mem : List Float
  mem = get cepstral_mem share

  abbrev ceps : List Float
  ceps = with_cepstrum logs mem index

  abbrev sensed : List Float
  sensed = put cepstral_mem share ceps

  abbrev features : List Float
  features =
      features_of (normalised_corr (get kept_x share) (scaled p) (get kept_ex share) (energies p))
      (at (get kept_lag share) 0) logs mem index

  -- what the six layers leave of the states as they stand in a share
  abbrev leaves : List Float → Layered
  leaves xs = layers_in_place bytes m (get vad_state xs) (get noise_state xs) (get denoise_state xs) features

  sized : (q : Place) → q.at + q.size ≤ PART → length (get q share) ≡ q.size
  sized q h = length_get q share (omega arith)

  rows : length ceps ≡ 176
  rows = length_with_cepstrum logs mem index (sized cepstral_mem (omega arith)) inside

  -- the cepstra went in before the states were taken out
  apart : (q : Place) → cepstral_mem.at + cepstral_mem.size ≤ q.at → get q sensed ≡ get q share
  apart q h = get_put_apart cepstral_mem q share ceps (omega arith) rows (inl h)

  same : leaves sensed ≡ leaves share
  same = rw (apart vad_state (omega arith), apart noise_state (omega arith), apart denoise_state (omega arith))

  fit : Lengths 22 1 (length (get vad_state share)) (length (get noise_state share)) (length (get denoise_state share))
      (length features)
  fit =
      record {
        gained = refl;
        voiced = refl;
        first = sized vad_state (omega arith);
        second = sized noise_state (omega arith);
        third = sized denoise_state (omega arith);
        featured = length_features _ _ _ _ _;
      }

  abbrev left : Layered
  left =
      (computed (zeros 22) (zeros 1) (get vad_state share) (get noise_state share)
      (get denoise_state share) bytes features).layers

  thought : leaves sensed ≡ left
  thought =
      same ∙ ap (λ (o : Outcome). o.layers)
      (computed_done (zeros 22) (zeros 1) _ _ _ bytes features fit {m = m} {left = leaves share} good refl)

  pub heard_frame_lem : recalled_in (next_place index) (spoken share index p logs bytes m).share
      ≡ hear (recalled_in index share) (heard_frame (noted_in share) p logs bytes)
  unfolding spoken_from featured rnn_of hear
  heard_frame_lem =
      let k = kept (zeros 22) (zeros 1) (get vad_state share) (get noise_state share)
      (get denoise_state share) bytes features in
      let l1 = k.first ∙ sized vad_state (omega arith) in
      let l2 = k.second ∙ sized noise_state (omega arith) in
      let l3 = k.third ∙ sized denoise_state (omega arith) in
      let put_back : Layered → List Float =
      λ f. put denoise_state (put noise_state (put vad_state sensed f.vad) f.noise) f.denoise in
      let put_all : Layered → List Float → Recalled =
      λ f last. recalled_in (next_place index) (put lastg (put_back f) (gained f.gains last)) in
      ap (λ (f : Layered). put_all f (get lastg (put_back f))) thought
      ∙ ap (put_all left) (old_gains share ceps left.vad left.noise left.denoise whole rows l1 l2 l3)
      ∙ all_put share ceps left.vad left.noise left.denoise whole rows l1 l2 l3
      (gained left.gains (get lastg share)) (length_gained _ _) (next_place index)

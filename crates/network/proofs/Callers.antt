-- Laws of `computed`, for callers.
--     computed_wrong       where a length is wrong: 5, and all as it was
--     computed_misread     where the lengths fit and the model does not read: its number and layer, and all as it was
--     computed_done        where the lengths fit and the model reads: done, and what the six layers leave
--     kept                 every buffer keeps its length
--     answered             a refusal is 5, and a model's refusal one of its table
-- Assumes nothing.
use Rattle.std.specs.Prelude.{◌≤◌, ◌∷◌, ◌++◌, ◌≡◌}
use Rattle.rules.proofs.Common.{ℕ, false, List, [], refl, sym, ap, ◌∙◌, length, take, drop}
use Rattle.rules.proofs.Common.{length-take, length-drop}
use Rattle.rules.proofs.Common.{length-append, Float}
use native.Mathlib.Omega.{arith}
use Rattle.rules.specs.Refusals.{Row, ◌when◌, wrong}
use Rattle.rules.proofs.Refusals.{clear, by_rows, Right, right, none_wrong, one_wrong, by_each}
use Rattle.model.specs.Model.{read_of}
use Rattle.model.specs.declared.Model.{Model}
use Rattle.model.specs.Reading.{Reading}
use Rattle.model.specs.Reading as read
use Rattle.network.specs.Compute.{Layered, layered_of, six_layers, layers_in_place, Outcome, outcome_of, by_reading}
use Rattle.network.specs.Compute.{computed}
use Rattle.network.specs.Private.{Lengths}
use Rattle.model.proofs.Bounds.{refused_in}
use Rattle.network.specs.Computed.{Computed, Done, Refused, Misread}
use Rattle.network.proofs.Fitting.{few, voice_fits, gains_fit}
use Rattle.network.proofs.Lengths.{length_dense_at, length_gru_at}

-- no length is wrong exactly where the lengths fit
module _ (gains voice vad noise denoise features : ℕ) where
  abbrev sizes : List (ℕ × ℕ)
  sizes = (gains, 22) ∷ (voice, 1) ∷ (vad, 128) ∷ (noise, 128) ∷ (denoise, 128) ∷ (features, 42) ∷ []

  none : Lengths gains voice vad noise denoise features → wrong sizes ≡ false
  none h = none_wrong sizes (h.gained, (h.voiced, (h.first, (h.second, (h.third, (h.featured, tt))))))

  fit_of : Right sizes → Lengths gains voice vad noise denoise features
  fit_of r =
      let s = r.1.1 in
      record {
        gained = r.0;
        voiced = r.1.0;
        first = s.0;
        second = s.1.0;
        third = s.1.1.0;
        featured = s.1.1.1.0;
      }

-- the numbers and the layers that an answer can have
abbrev pub Answered : Computed → Type 0
Answered Done = Unit
Answered (Refused number) = number ≡ 5
Answered (Misread number layer) = (number ≤ 22) × (layer ≤ 6)

module _ (gains voice vad noise denoise : List Float) (model : List ℕ) (features : List Float) where
  abbrev pub Fit : Type 0
  Fit = Lengths (length gains) (length voice) (length vad) (length noise) (length denoise) (length features)

  abbrev lengths : List (ℕ × ℕ)
  lengths = sizes (length gains) (length voice) (length vad) (length noise) (length denoise) (length features)

  abbrev rows : List Row
  rows = 5 when wrong lengths ∷ []

  fits : Right lengths → Fit
  fits = fit_of (length gains) (length voice) (length vad) (length noise) (length denoise) (length features)

  abbrev refuse : ℕ → Outcome
  refuse n = outcome_of (Refused n) gains voice vad noise denoise

  abbrev past : Outcome
  past =
      by_reading (read_of model)
      (λ m. record { answer = Done; layers = layers_in_place model m vad noise denoise features })
      (λ number layer. outcome_of (Misread number layer) gains voice vad noise denoise)

  pub computed_wrong : (Fit → ⊥)
      → outcome_of (Refused 5) gains voice vad noise denoise ≡ computed gains voice vad noise denoise model features
  unfolding computed
  computed_wrong misfit = rw (one_wrong lengths (λ r. misfit (fits r)))

  passed : Fit → past ≡ computed gains voice vad noise denoise model features
  unfolding computed
  passed fit =
      sym (clear refuse past rows
      (none (length gains) (length voice) (length vad) (length noise) (length denoise) (length features) fit, tt))

  pub computed_misread : Fit → {number layer : ℕ} → read_of model ≡ read.Refused number layer
      → outcome_of (Misread number layer) gains voice vad noise denoise
      ≡ computed gains voice vad noise denoise model features
  computed_misread fit {number} {layer} e = sym (ap (λ (r : Reading). by_reading r good bad) e) ∙ passed fit
    where
      good : Model → Outcome
      good m = record { answer = Done; layers = layers_in_place model m vad noise denoise features }

      bad : ℕ → ℕ → Outcome
      bad number layer = outcome_of (Misread number layer) gains voice vad noise denoise

  pub computed_done : Fit → {m : Model} {left : Layered} → read_of model ≡ read.Good m
      → left ≡ layers_in_place model m vad noise denoise features
      → record { answer = Done; layers = left } ≡ computed gains voice vad noise denoise model features
  computed_done fit e l = rw (← passed fit, e, l)

  -- every buffer keeps its length
  pub record Kept (f : Layered) : Type 0 where
    pub gained : length f.gains ≡ length gains
    pub voiced : length f.voice ≡ length voice
    pub first : length f.vad ≡ length vad
    pub second : length f.noise ≡ length noise
    pub third : length f.denoise ≡ length denoise

  as_held : Kept (layered_of gains voice vad noise denoise)
  as_held = record { gained = refl; voiced = refl; first = refl; second = refl; third = refl }

  -- a state whose first n places are another list of n
  moved : (n : ℕ) (state new : List Float) → n ≤ length state → length new ≡ length (take n state)
      → length (new ++ drop n state) ≡ length state
  moved n state new h e = simp (length-append, length-drop, e, length-take) (omega arith)

  done_kept : Fit → (m : Model) → read_of model ≡ read.Good m
      → Kept (layers_in_place model m vad noise denoise features)
  unfolding layers_in_place six_layers
  done_kept fit m good =
      let few = few model m good in
      let voiced = (voice_fits model m good refl refl refl).answer in
      let gained = (gains_fit model m good refl refl).answer in
      let f = six_layers model m (take m.vad_gru.neurons vad) (take m.noise_gru.neurons noise)
      (take m.denoise_gru.neurons denoise) features in
      record {
        gained =
            length_dense_at model m.denoise_output _ gained.within ∙ sym gained.neurons ∙ sym fit.gained;
        voiced = length_dense_at model m.vad_output _ voiced.within ∙ sym voiced.neurons ∙ sym fit.voiced;
        first =
            moved m.vad_gru.neurons vad f.vad (omega (arith, few, fit.first))
            (length_gru_at model m.vad_gru _ _);
        second =
            moved m.noise_gru.neurons noise f.noise (omega (arith, few, fit.second))
            (length_gru_at model m.noise_gru _ _);
        third =
            moved m.denoise_gru.neurons denoise f.denoise (omega (arith, few, fit.third))
            (length_gru_at model m.denoise_gru _ _);
      }

  pub kept : Kept (computed gains voice vad noise denoise model features).layers
  unfolding computed
  kept =
      by_rows refuse past (λ o. Kept o.layers) rows (λ n. as_held)
      (λ c. of (fits (right lengths c.0)) (read_of model) refl)
    where
      of : Fit → (r : Reading) → read_of model ≡ r
          → Kept
          (by_reading r (λ m. record { answer = Done; layers = layers_in_place model m vad noise denoise features })
          (λ number layer. outcome_of (Misread number layer) gains voice vad noise denoise)).layers
      of fit (read.Good m) e = done_kept fit m e
      of fit (read.Refused number layer) e = as_held

  -- what it answers: a refusal is 5, and a model's refusal one of its table
  pub answered : Answered (computed gains voice vad noise denoise model features).answer
  unfolding computed
  answered = by_each refuse past (λ o. Answered o.answer) rows (refl, tt) (of (read_of model) refl)
    where
      of : (r : Reading) → read_of model ≡ r
          → Answered
          (by_reading r (λ m. record { answer = Done; layers = layers_in_place model m vad noise denoise features })
          (λ number layer. outcome_of (Misread number layer) gains voice vad noise denoise)).answer
      of (read.Good m) e = tt
      of (read.Refused number layer) e = let b = refused_in model (sym e) in (b.1, b.2)

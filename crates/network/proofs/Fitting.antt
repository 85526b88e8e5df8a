-- The layers of a model that reads, on lengths that are theirs. Assumes nothing.
use Rattle.std.specs.Prelude.{◌+◌, ◌≤◌, ◌≡◌}
use Rattle.rules.proofs.Common.{ℕ, List, refl, sym, ◌∙◌, length}
use native.Mathlib.Omega.{arith}
use Rattle.model.specs.Model.{read_of}
use Rattle.model.specs.declared.Kind.TheVariants.{Gru}
use Rattle.model.specs.declared.Model.{Model}
use Rattle.model.specs.Reading.{Good}
use Rattle.model.proofs.Shapes.{shaped}
use Rattle.network.specs.Private.{LayerFits, VoiceFits, DenoiseFits}

module _ (bytes : List ℕ) (m : Model) (good : read_of bytes ≡ Good m) where
  pub voice_fits : {hidden voice features : ℕ} → hidden ≡ m.input_dense.neurons → voice ≡ 1 → features ≡ 42
      → VoiceFits m (length bytes) hidden voice features
  voice_fits a v f =
      let s = shaped bytes (sym good) in
      record {
        front = record { within = s.layer0; neurons = a; inputs = f ∙ sym s.features };
        state = record { within = s.layer1; neurons = refl; inputs = a ∙ s.vad_reads };
        answer = record { within = s.layer5; neurons = v ∙ sym s.voice; inputs = s.voice_reads };
      }

  pub noise_fits : {hidden features : ℕ} → hidden ≡ m.input_dense.neurons → features ≡ 42
      → LayerFits Gru m.noise_gru (length bytes) m.noise_gru.neurons
      (hidden + m.vad_gru.neurons + features)
  noise_fits a f = let s = shaped bytes (sym good) in
      record { within = s.layer2; neurons = refl; inputs = omega (arith, s.noise_reads) }

  pub gains_fit : {gains features : ℕ} → gains ≡ 22 → features ≡ 42 → DenoiseFits m (length bytes) gains features
  gains_fit g f =
      let s = shaped bytes (sym good) in
      record {
        state = record { within = s.layer3; neurons = refl; inputs = omega (arith, s.denoise_reads) };
        answer = record { within = s.layer4; neurons = g ∙ sym s.gains; inputs = s.gains_read };
      }

  -- a layer has at most 127 neurons
  pub few : (m.input_dense.neurons ≤ 127) × (m.vad_gru.neurons ≤ 127) × (m.noise_gru.neurons ≤ 127)
      × (m.denoise_gru.neurons ≤ 127)
  few =
      let s = shaped bytes (sym good) in (
        omega (arith, s.layer0.neurons),
        omega (arith, s.layer1.neurons),
        omega (arith, s.layer2.neurons),
        omega (arith, s.layer3.neurons),
      )

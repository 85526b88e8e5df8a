-- What holds of each model that reads: its layers lie within the file, and their counts go together. Assumes nothing.
use Rattle.std.specs.Prelude.{◌≡◌}
use Rattle.rules.proofs.Common.{ℕ, false, List, subst, eqb, length}
use native.Mathlib.Nat.{le_refl}
use borrow.Author.Tests.{eqb-true, not-false}
use Rattle.rules.proofs.Refusals.{Clear}
use Rattle.rules.proofs.Tests.{neither}
use Rattle.model.specs.declared.Model.{Model}
use Rattle.model.specs.Reading.{Good}
use Rattle.model.specs.Model.{◌≠◌, counts_in, match_faults, read_of}
use Rattle.model.specs.Laws.{Shaped, WellShaped}
use Rattle.model.proofs.File.{Written, writes_back}
use Rattle.model.proofs.Places.{found_within}

pub same : (a b : ℕ) → (a ≠ b) ≡ false → a ≡ b
same a b h = eqb-true a b (not-false (eqb a b) h)

pub shape : (s : List ℕ) (m : Model) → Written s m → Shaped (length s) m
shape s m w =
    let match : Clear (match_faults (counts_in m) 0) =
    subst (λ (m : Model). Clear (match_faults (counts_in m) 0)) w.model w.holds.match in
    let in18 = neither _ _ match.1.0 in
    let in18' = neither _ _ in18.1 in
    let in19 = neither _ _ match.1.1.0 in
    let within = found_within m w (le_refl (length s)) in
    record {
      layer0 = within 0;
      layer1 = within 1;
      layer2 = within 2;
      layer3 = within 3;
      layer4 = within 4;
      layer5 = within 5;
      features = same _ _ in18.0;
      gains = same _ _ in18'.0;
      voice = same _ _ in18'.1;
      vad_reads = same _ _ in19.0;
      voice_reads = same _ _ in19.1;
      noise_reads = same _ _ match.1.1.1.0;
      denoise_reads = same _ _ match.1.1.1.1.0;
      gains_read = same _ _ match.1.1.1.1.1.0;
    }

pub shaped : (s : List ℕ) {m : Model} → Good m ≡ read_of s → Shaped (length s) m
shaped s {m} e = shape s m (rw (← e) at (writes_back s))

pub well_shaped : WellShaped
well_shaped s m e = shaped s e

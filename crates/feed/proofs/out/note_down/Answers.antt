-- `feed::out::note_down` meets its contract: the sheet's own writer refuses none of these. Assumes nothing.
use Rattle.std.specs.Prelude.{◌*◌, ◌≤◌, ◌++◌, ◌≡◌}
use Rattle.rules.proofs.Common.{ℕ, true, List, refl, sym, ap, ◌∙◌, length, get_or, drop}
use native.Mathlib.Omega.{arith}
use Rattle.rules.specs.Leaf.{◌leaving◌}
use Rattle.frame.specs.Written.{at_front}
use Rattle.sheet.specs.Sheet.{records_of}
use Rattle.sheet.specs.Written.{known_kinds}
use Rattle.sheet.specs.Rows.{records_laid}
use Rattle.sheet.proofs.InRow.{rows_laid}
use Rattle.sheet.proofs.Laying.{length_records}
use Rattle.rules.proofs.Numbered.{told_done}
use Rattle.feed.proofs.out.note_down.Goals as goal

laid : (side : ℕ) (es numbers out : List ℕ) {r : ℕ} {numbers' out' : List ℕ} → length numbers ≡ 2
    → get_or numbers 0 0 ≡ 0
    → side ≤ 1 → length es ≤ 9 → 8 * length es ≤ length out → known_kinds es ≡ true
    → (r leaving numbers' leaving out') ≡ records_laid side es numbers out
    → (r ≡ 0) × (out' ≡ at_front (records_of side es) out)
laid side es numbers out two none known few room heard e =
    let done = rows_laid side es numbers out two (omega arith) known heard room refl refl in (
      ap (λ (x : ℕ × (List ℕ × List ℕ)). x.0) (e ∙ sym done),
      ap (λ (x : ℕ × (List ℕ × List ℕ)). x.1.1) (e ∙ sym done)
          ∙ ap (λ (k : ℕ). records_of side es ++ drop k out) (sym (length_records side es)),
    )

pub unwrap-requires : goal.unwrap-requires
unwrap-requires c =
    let k = c.requires in told_done _ (laid _ _ _ _ refl refl k.0 k.1 k.2 k.3 c.records.ensures).0

pub returns : goal.returns
returns c = let k = c.requires in (laid _ _ _ _ refl refl k.0 k.1 k.2 k.3 c.records.ensures).1

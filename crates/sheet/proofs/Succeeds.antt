-- Mending is not refused where it can be done (`mend_succeeds`). Assumes nothing.
use Rattle.std.specs.Prelude.{◌+◌, ◌≤◌, ◌&&◌, ◌∷◌, ◌++◌, ◌≡◌}
use Rattle.rules.proofs.Common.{ℕ, Bool, true, false, cond, not, true≢false, List, []}
use Rattle.rules.proofs.Common.{refl, sym, ap, eqb, ltb, length}
use Rattle.rules.proofs.Common.{take, drop}
use native.Mathlib.Omega.{arith}
use mathlib.Core.Logic.{◌⊎◌, inl, inr}
use borrow.Author.Tests.{le-ltb, eq-eqb, ne_eqb}
use Rattle.rules.specs.Leaf.{◌leaving◌}
use Rattle.rules.proofs.Refusals.{clear}
use Rattle.sheet.specs.Sheet.{sheet_bytes}
use Rattle.sheet.specs.End.{run, read_sheet}
use Rattle.sheet.specs.Mended.{kept, torn, reads_at, records_in, Mended, mended, mend_faults, mend_of}
use Rattle.sheet.specs.Laws.{RecordsFollow, MendSucceeds}
use Rattle.sheet.proofs.Kept.{no_longer}
use Rattle.sheet.proofs.Mending.{size_anew, run_within}

-- a good record that follows is kept
some_kept : (rest : List ℕ) → RecordsFollow rest → 1 ≤ kept rest
unfolding run
some_kept rest (side, known, long, good-one, few) = no_longer rest side 1 known (omega arith) (rw good-one)

module _ (s : List ℕ) (place : ℕ) (within : place ≤ length s) (room : ℕ) (enough : length s + 16 ≤ room) where
  abbrev n : ℕ
  n = kept (drop place s)

  abbrev of : Bool → Mended
  of t =
      cond t (record { bytes = s; records = records_in (read_sheet s) })
      (record { bytes = take place s ++ sheet_bytes (torn (drop place s)); records = kept (drop place s) })

  -- no test holds
  abbrev Free : Bool → Type 0
  Free t = (not t && eqb n 0 ≡ false) × (not t && ltb 536870911 n ≡ false) × (ltb room (length (of t).bytes) ≡ false)

  free : (t : Bool) → (t ≡ true) ⊎ RecordsFollow (drop place s) → Free t
  free true h = (refl, refl, le-ltb room (length s) (omega arith))
  free false (inl e) = absurd (true≢false (sym e))
  free false (inr f) =
      let one = some_kept (drop place s) f in (
        ne_eqb n 0 (λ e. omega arith),
        le-ltb 536870911 n f.4,
        le-ltb room _ (omega (arith, size_anew s place within refl, run_within s place within refl)),
      )

pub mend_succeeds : MendSucceeds
unfolding mend_of mended
mend_succeeds s place numbers out two within can enough =
    let f = free s place within (length out) enough (reads_at place (read_sheet s)) can in
    ap (λ (p : ℕ × (List ℕ × List ℕ)). p.0)
    (clear (λ r. r leaving numbers leaving out)
    (0 leaving length (mended s place).bytes ∷ (mended s place).records ∷ [] leaving (mended s place).bytes
    ++ drop (length (mended s place).bytes) out)
    (mend_faults s place numbers out)
    (rw (eq-eqb (length numbers) 2 two), (le-ltb (length s) place within, (f.0, (f.1, (f.2, tt))))))

-- The writer and the reader, each the other's inverse. Assumes nothing.
use Rattle.std.specs.Prelude.{◌≤◌, ◌++◌, ◌≡◌}
use Rattle.rules.proofs.Common.{ℕ, List, refl, sym, ap, ◌∙◌, length, drop, length-append}
use native.Mathlib.Omega.{arith}
use borrow.Author.Tests.{le-ltb}
use lib.Seq.{take_at, drop-append_seam}
use Rattle.rules.specs.Leaf.{◌leaving◌}
use Rattle.rules.proofs.Refusals.{Clear, clear, none_held}
use Rattle.sheet.specs.Sheet.{Sheet, sheet_bytes, sheet_size}
use Rattle.sheet.specs.End.{sheet}
use Rattle.sheet.specs.Written.{written_faults, written_of}
use Rattle.sheet.specs.Laws.{SheetReads, SheetWritten}
use Rattle.sheet.proofs.Laying.{length_records, length_trailer}
use Rattle.sheet.proofs.Inverse.{Fits, unhindered, reads_back}
use Rattle.sheet.proofs.Back.{From, writes_back}

module _ (sh : Sheet) where
  length_bytes : length (sheet_bytes sh) ≡ sheet_size (length sh.entries)
  length_bytes = simp (length-append, length_records, length_trailer) (omega arith)

  -- a sheet that fits is not refused, given room
  free : (room : ℕ) → Fits sh → sheet_size (length sh.entries) ≤ room → Clear (written_faults sh room)
  free room fits enough =
      (le-ltb _ _ fits.few, (le-ltb _ _ fits.known, (rw fits.heard, (le-ltb _ _ enough, tt))))

pub sheet_reads : SheetReads
unfolding written_of
sheet_reads sh before out after e =
    let size = sheet_size (length sh.entries) in
    let right : ℕ × List ℕ = (0 leaving sheet_bytes sh ++ drop size out) in
    let c = none_held (λ (p : ℕ × List ℕ). p.0) (λ n. n leaving out) right (λ n. refl)
    (written_faults sh (length out)) tt (ap (λ (p : ℕ × List ℕ). p.0) (sym e)) in
    let done : after ≡ sheet_bytes sh ++ drop size out =
    ap (λ (p : ℕ × List ℕ). p.1) (e ∙ clear (λ n. n leaving out) right (written_faults sh (length out)) c) in
    rw (done, take_at (sheet_bytes sh) (drop size out) size (length_bytes sh))
    (reads_back before sh (unhindered sh (length out) c))

pub sheet_written : SheetWritten
unfolding written_of
sheet_written s before out sh b e enough =
    let from : From s (sheet before sh) = rw (← e) at (writes_back s b) in
    let file : drop (length before) s ≡ sheet_bytes sh = rw from.1 (drop-append_seam before (sheet_bytes sh)) in
    let long : length (drop (length before) s) ≡ sheet_size (length sh.entries) = rw file (length_bytes sh) in (
      rw file from.1,
      rw (
        long,
        file,
      )
          (sym (clear (λ n. n leaving out) (0 leaving sheet_bytes sh ++ drop (sheet_size (length sh.entries)) out)
          (written_faults sh (length out)) (free sh (length out) from.0 (rw long at enough)))),
    )

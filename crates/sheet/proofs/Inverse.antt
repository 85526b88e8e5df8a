-- What is written reads: a sheet that fits, behind any bytes, reads as it was given and starts where they end.
-- Assumes nothing.
use Rattle.std.specs.Prelude.{◌+◌, ◌-◌, ◌*◌, ◌%◌, ◌≤◌, ◌∷◌, ◌++◌, ◌≡◌}
use Rattle.rules.proofs.Common.{ℕ, suc, true, List, [], refl, sym, ap, ◌∙◌}
use Rattle.rules.proofs.Common.{length, get_or, take, drop}
use Rattle.rules.proofs.Common.{length-append}
use mathlib.Core.List.{append_assoc}
use native.Mathlib.Omega.{arith}
use borrow.Author.Tests.{le-ltb, eq-eqb, ltb-false, not-false}
use lib.Seq.{take_at, drop_at, take-append_seam, drop-append_seam}
use Rattle.rules.specs.Lists.{sum}
use Rattle.rules.proofs.Refusals.{Clear, clear}
use Rattle.sheet.specs.Sheet.{four, Sheet, kind, record_bytes, records_of, trailer_of, sheet_bytes}
use Rattle.sheet.specs.End.{from_four, three_zeros, good_record, run, entry_of, entries_of, trailer, trailer_distance}
use Rattle.sheet.specs.End.{number, side_byte, padded, sum_noted, start, records, sheet_faults, sheet, refused}
use Rattle.sheet.specs.End.{end_of, reading_of, read_sheet}
use Rattle.sheet.specs.Written.{known_kinds, written_faults}
use Rattle.sheet.specs.End.{Good}
use Rattle.sheet.proofs.Digits.{digits, four_read}
use Rattle.sheet.proofs.Runs.{first_heard}
use Rattle.sheet.proofs.Laying.{length_trailer, length_records}

-- a sheet that a file can hold
pub record Fits (sh : Sheet) : Type 0 where
  pub few : length sh.entries ≤ 536870911
  pub known : sh.side ≤ 1
  pub heard : known_kinds sh.entries ≡ true

-- what the writer does not refuse fits
pub unhindered : (sh : Sheet) (room : ℕ) → Clear (written_faults sh room) → Fits sh
unhindered sh room h =
    record { few = ltb-false _ _ h.0; known = ltb-false _ _ h.1.0; heard = not-false _ h.1.1.0 }

-- ---- what is written reads

module _ (side e : ℕ) (rest : List ℕ) where
  record_good : kind e ≤ 1 → good_record side (record_bytes side e ++ rest) ≡ true
  unfolding good_record record_bytes four
  record_good h = rw (le-ltb 1 (kind e) h, eq-eqb side side refl)

  record_entry : entry_of (record_bytes side e ++ rest) ≡ e
  unfolding entry_of from_four record_bytes four
  record_entry = digits e

  record_next : drop 8 (record_bytes side e ++ rest) ≡ rest
  unfolding record_bytes four
  record_next = refl

run_reads : (side : ℕ) (es rest : List ℕ) → known_kinds es ≡ true
    → run side (length es) (records_of side es ++ rest) ≡ length es
unfolding run
run_reads side [] rest h = refl
run_reads side (e ∷ es) rest h =
    let k = first_heard e es h in
    rw (
      append_assoc (record_bytes side e) (records_of side es) rest,
      record_good side e (records_of side es ++ rest) k.0,
      record_next side e (records_of side es ++ rest),
    )
    (ap suc (run_reads side es rest k.1))

entries_read : (side : ℕ) (es rest : List ℕ) → entries_of (length es) (records_of side es ++ rest) ≡ es
unfolding entries_of
entries_read side [] rest = refl
entries_read side (e ∷ es) rest =
    rw (
      append_assoc (record_bytes side e) (records_of side es) rest,
      record_entry side e (records_of side es ++ rest),
      record_next side e (records_of side es ++ rest),
      entries_read side es rest,
    )

drop_four : (n : ℕ) (rest : List ℕ) → drop 4 (four n ++ rest) ≡ rest
unfolding four
drop_four n rest = refl

module _ (n side t : ℕ) where
  trailer_distance_lem : from_four (trailer_of n side t) ≡ 8 * n % 4294967296
  unfolding trailer_of
  trailer_distance_lem = four_read (8 * n) _

  trailer_number : from_four (drop 4 (trailer_of n side t)) ≡ n % 4294967296
  unfolding trailer_of
  trailer_number = rw (drop_four (8 * n) _) (four_read n _)

  trailer_side : get_or (trailer_of n side t) 8 0 ≡ side
  unfolding trailer_of four
  trailer_side = refl

  trailer_padded : three_zeros (drop 9 (trailer_of n side t)) ≡ true
  unfolding three_zeros trailer_of four
  trailer_padded = refl

  trailer_sum : from_four (drop 12 (trailer_of n side t)) ≡ t % 4294967296
  unfolding from_four trailer_of four
  trailer_sum = four_read t []

module _ (before : List ℕ) (sh : Sheet) (fits : Fits sh) where
  n : ℕ
  n = length sh.entries

  r : List ℕ
  r = records_of sh.side sh.entries

  t : List ℕ
  t = trailer_of (length sh.entries) sh.side (sum (records_of sh.side sh.entries))

  whole : List ℕ
  whole = before ++ (r ++ t)

  size : length r ≡ 8 * n
  unfolding n r
  size = length_records sh.side sh.entries

  long : length whole ≡ length before + 8 * n + 16
  unfolding whole n r t
  long = simp (length-append, length_records, length_trailer) (omega arith)

  last : trailer whole ≡ t
  unfolding whole
  last =
      ap (drop (length whole - 16)) (sym (append_assoc before r t))
      ∙ drop_at (before ++ r) t (length whole - 16) (front ∙ ap (λ (k : ℕ). k - 16) (sym long))
    where
      front : length (before ++ r) ≡ length before + 8 * n + 16 - 16
      front = simp length-append (omega (arith, size))

  distance_read : trailer_distance whole ≡ 8 * n
  unfolding trailer_distance n t
  distance_read = rw last (trailer_distance_lem _ _ _ ∙ omega (arith, fits.few))

  number_read : number whole ≡ n
  unfolding number n t
  number_read = rw last (trailer_number _ _ _ ∙ omega (arith, fits.few))

  side_read : side_byte whole ≡ sh.side
  unfolding side_byte t
  side_read = rw last (trailer_side _ _ _)

  padded_read : padded whole ≡ true
  unfolding padded t
  padded_read = rw last (trailer_padded _ _ _)

  sum_read : sum_noted whole ≡ sum r % 4294967296
  unfolding sum_noted t r
  sum_read = rw last (trailer_sum _ _ _)

  start_read : start whole ≡ length before
  unfolding start
  start_read = rw (long, distance_read) (omega arith)

  records_read : records whole ≡ r ++ t
  unfolding records whole
  records_read = rw start_read (drop-append_seam before (r ++ t))

  run_read : run sh.side n (r ++ t) ≡ n
  unfolding n r
  run_read = run_reads sh.side sh.entries t fits.heard

  entries_back : entries_of n (r ++ t) ≡ sh.entries
  unfolding n r
  entries_back = entries_read sh.side sh.entries t

  clear_read : Clear (sheet_faults whole)
  unfolding sheet_faults
  clear_read = (
    le-ltb (length whole) 16 (rw long (omega arith)),
    (
      rw (distance_read, number_read, eq-eqb (8 * n) (8 * n) refl)
          (le-ltb (length whole - 16) (8 * n) (rw long (omega arith))),
      (
        rw (side_read, padded_read, le-ltb 1 sh.side fits.known),
        (
          rw (side_read, number_read, records_read, run_read, eq-eqb n n refl),
          (
            rw (
              sum_read,
              number_read,
              records_read,
              take_at r t (8 * n) size,
              eq-eqb (sum r % 4294967296) (sum r % 4294967296) refl,
            ),
            tt,
          ),
        ),
      ),
    ),
  )

  front_read : take (length before) whole ≡ before
  unfolding whole
  front_read = take-append_seam before (r ++ t)

  whole_reads : end_of whole ≡ sheet before sh
  unfolding end_of
  whole_reads =
      clear refused _ (sheet_faults whole) clear_read
      ∙ rw (start_read, side_read, number_read, records_read, entries_back, front_read)

  pub reads_back : end_of (before ++ sheet_bytes sh) ≡ sheet before sh
  unfolding whole r t
  reads_back = whole_reads

  -- and so the reader tells
  pub read_back : read_sheet (before ++ sheet_bytes sh) ≡ Good (length before) (length sh.entries) sh.side
  unfolding read_sheet
  read_back = ap reading_of reads_back

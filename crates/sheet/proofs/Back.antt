-- What reads is written: the bytes before it, and behind them what is written for the sheet that was read.
-- Assumes nothing.
use Rattle.std.specs.Prelude.{◌+◌, ◌-◌, ◌*◌, ◌%◌, ◌≤◌, ◌<◌, ◌∷◌, ◌++◌, ◌≡◌}
use Rattle.rules.proofs.Common.{ℕ, zero, suc, Bool, true, false, cond, not, List, []}
use Rattle.rules.proofs.Common.{refl, sym, ap}
use Rattle.rules.proofs.Common.{◌∙◌, eqb, ltb, length, get_or, take, drop, length-drop}
use native.Mathlib.Nat.{add-zero}
use native.Mathlib.Omega.{arith}
use borrow.Author.Tests.{le-ltb, ltb-false, eqb-true, not-true, not-false}
use lib.ListN.{take-append-drop}
use lib.Seq.{take_all, get_or-drop, drop-drop, take-add}
use Rattle.rules.specs.Lists.{sum, Bytes}
use Rattle.rules.specs.Tab.{tab}
use Rattle.rules.proofs.Refusals.{Clear, by_rows}
use Rattle.rules.proofs.Lists.{tab_get_d}
use Rattle.rules.proofs.Tests.{both, neither}
use Rattle.sheet.specs.Sheet.{four, kind, record_bytes, records_of, trailer_of, sheet_bytes}
use Rattle.sheet.specs.End.{from_four, three_zeros, good_record, run, entry_of, entries_of, trailer, trailer_distance}
use Rattle.sheet.specs.End.{number, side_byte, padded, sum_noted, start, records, sheet_faults, End, sheet, refused}
use Rattle.sheet.specs.End.{end_of}
use Rattle.sheet.specs.Written.{known_kinds}
use Rattle.sheet.proofs.Digits.{four_of_lem, above, four_mod}
use Rattle.sheet.proofs.Fields.{zeros_at}
use Rattle.sheet.proofs.Halves.{ends_at, low_side, behind, length_entries}
use Rattle.sheet.proofs.Inverse.{Fits}

pub drop_bytes : (k : ℕ) (s : List ℕ) → Bytes s → Bytes (drop k s)
drop_bytes k s b i = rw (get_or-drop k s i 0) (b (k + i))

-- ---- four bytes

first_four : (s : List ℕ) → 4 ≤ length s → take 4 s ≡ get_or s 0 0 ∷ get_or s 1 0 ∷ get_or s 2 0 ∷ get_or s 3 0 ∷ []
unfolding tab
first_four s h = sym (tab_get_d s 0 4 0 h)

first_eight : (s : List ℕ) → 8 ≤ length s
    → take 8 s ≡ get_or s 0 0 ∷ get_or s 1 0 ∷ get_or s 2 0 ∷ get_or s 3 0 ∷ get_or s 4 0 ∷ get_or s 5 0 ∷ get_or s 6 0
    ∷ get_or s 7 0
    ∷ []
unfolding tab
first_eight s h = sym (tab_get_d s 0 8 0 h)

four_back : (s : List ℕ) → 4 ≤ length s → Bytes s → four (from_four s) ≡ take 4 s
unfolding from_four
four_back s h b =
    ap four (sym (add-zero _)) ∙ four_of_lem (get_or s 0 0) (get_or s 1 0) (get_or s 2 0) (get_or s 3 0) 0 (b 0) (b 1)
    (b 2) (b 3)
    ∙ sym (first_four s h)

from_small : (s : List ℕ) → Bytes s → from_four s < 4294967296
unfolding from_four
from_small s b = omega (arith, b 0, b 1, b 2, b 3)

-- ---- records

-- what the tests say of a good record's last four bytes
tests : (side : ℕ) (s : List ℕ) → good_record side s ≡ true
    → (get_or s 4 0 ≤ 1) × (get_or s 5 0 ≡ side) × (get_or s 6 0 ≡ 0) × (get_or s 7 0 ≡ 0)
unfolding good_record
tests side s g =
    let k = both (not (ltb 1 (get_or s 4 0))) _ g in
    let l = both (eqb (get_or s 5 0) side) _ k.1 in
    let m = both (eqb (get_or s 6 0) 0) _ l.1 in (
      ltb-false 1 (get_or s 4 0) (not-true _ k.0),
      eqb-true (get_or s 5 0) side l.0,
      eqb-true (get_or s 6 0) 0 m.0,
      eqb-true (get_or s 7 0) 0 m.1,
    )

pub side_good : (side : ℕ) (s : List ℕ) → good_record side s ≡ true → get_or s 5 0 ≡ side
side_good side s g = (tests side s g).1

module _ (side : ℕ) (s : List ℕ) (g : good_record side s ≡ true) (b : Bytes s) where
  kind_of : kind (entry_of s) ≡ get_or s 4 0
  unfolding entry_of from_four
  kind_of = above (get_or s 0 0) (get_or s 1 0) (get_or s 2 0) (get_or s 3 0) (get_or s 4 0) (b 0) (b 1) (b 2) (b 3)

  pub kind_back : kind (entry_of s) ≤ 1
  kind_back = rw kind_of (tests side s g).0

  first_of : four (entry_of s) ≡ get_or s 0 0 ∷ get_or s 1 0 ∷ get_or s 2 0 ∷ get_or s 3 0 ∷ []
  unfolding entry_of from_four
  first_of = four_of_lem (get_or s 0 0) (get_or s 1 0) (get_or s 2 0) (get_or s 3 0) (get_or s 4 0) (b 0) (b 1) (b 2)
      (b 3)

  pub record_back : 8 ≤ length s → record_bytes side (entry_of s) ≡ take 8 s
  unfolding record_bytes
  record_back h = rw (first_eight s h, first_of, kind_of, (tests side s g).1, (tests side s g).2, (tests side s g).3)

pub run_good : (side n : ℕ) (s : List ℕ) → run side (suc n) s ≡ suc n
    → (good_record side s ≡ true) × (run side n (drop 8 s) ≡ n)
unfolding run
run_good side n s r = of (good_record side s) refl r
  where
    of : (t : Bool) → good_record side s ≡ t → cond t (suc (run side n (drop 8 s))) 0 ≡ suc n
        → (good_record side s ≡ true) × (run side n (drop 8 s) ≡ n)
    of true g e = (g, omega arith)
    of false g e = absurd (omega arith)

-- good records are those of their entries
pub records_back : (side n : ℕ) (s : List ℕ) → run side n s ≡ n → 8 * n ≤ length s → Bytes s
    → (records_of side (entries_of n s) ≡ take (8 * n) s) × (known_kinds (entries_of n s) ≡ true)
unfolding entries_of known_kinds
records_back side zero s r h b = (refl, refl)
records_back side (suc n) s r h b =
    let g = run_good side n s r in
    let rest = records_back side n (drop 8 s) g.1 (simp length-drop (omega arith)) (drop_bytes 8 s b) in
    let size : 8 * suc n ≡ 8 + 8 * n = omega arith in (
      rw (record_back side s g.0 b (omega arith), rest.0, size, take-add 8 (8 * n) s),
      rw (le-ltb 1 (kind (entry_of s)) (kind_back side s g.0 b)) rest.1,
    )

-- ---- the trailer

module _ (t : List ℕ) (h : length t ≡ 16) (b : Bytes t) where
  long : (k : ℕ) → k ≤ 12 → 4 ≤ length (drop k t)
  long k l = simp length-drop (omega arith)

  step : (k : ℕ) → k ≤ 12 → four (from_four (drop k t)) ++ drop (k + 4) t ≡ drop k t
  step k l = rw (four_back (drop k t) (long k l) (drop_bytes k t b), ← drop-drop 4 k t) (take-append-drop 4 (drop k t))

  trailer_back : (n side total : ℕ) → from_four t ≡ 8 * n → from_four (drop 4 t) ≡ n → get_or t 8 0 ≡ side
      → three_zeros (drop 9 t) ≡ true → from_four (drop 12 t) ≡ total % 4294967296
      → trailer_of n side total ≡ t
  unfolding trailer_of
  trailer_back n side total ds ns ss zs ts =
      let noted : four total ≡ drop 12 t =
      sym (four_mod total) ∙ ap four (sym ts) ∙ four_back (drop 12 t) (long 12 (omega arith)) (drop_bytes 12 t b)
      ∙ take_all 4 (drop 12 t) (simp length-drop (omega arith)) in
      rw (noted, ← ds, ← ns, ← ss, middle, step 4 (omega arith), step 0 (omega arith))
    where
      padding : (get_or t 9 0 ≡ 0) × (get_or t 10 0 ≡ 0) × (get_or t 11 0 ≡ 0)
      padding =
          let z = both (eqb (get_or t 9 0) 0) _ (sym (zeros_at t 9) ∙ zs) in
          let y = both (eqb (get_or t 10 0) 0) _ z.1 in
          (eqb-true _ _ z.0, eqb-true _ _ y.0, eqb-true _ _ y.1)

      middle : get_or t 8 0 ∷ 0 ∷ 0 ∷ 0 ∷ drop 12 t ≡ drop 8 t
      middle =
          sym (sym (take-append-drop 4 (drop 8 t))
          ∙ rw (
            first_four (drop 8 t) (long 8 (omega arith)),
            get_or-drop 8 t 0 0,
            get_or-drop 8 t 1 0,
            get_or-drop 8 t 2 0,
            get_or-drop 8 t 3 0,
            padding.0,
            padding.1,
            padding.2,
            drop-drop 4 8 t,
          ))

-- ---- a sheet

module _ (s : List ℕ) (b : Bytes s) (h : Clear (sheet_faults s)) where
  ends : start s + 8 * number s + 16 ≡ length s
  unfolding sheet_faults
  ends = ends_at s (h.0, (h.1.0, (h.1.1.0, tt)))

  known : side_byte s ≤ 1
  unfolding sheet_faults
  known = low_side s (h.0, (h.1.0, (h.1.1.0, tt)))

  apart : trailer_distance s ≡ 8 * number s
  unfolding sheet_faults
  apart = eqb-true (trailer_distance s) (8 * number s) (not-false _ (neither _ _ h.1.0).0)

  clean : padded s ≡ true
  unfolding sheet_faults
  clean = not-false (padded s) (neither (ltb 1 (side_byte s)) (not (padded s)) h.1.1.0).1

  all_good : run (side_byte s) (number s) (records s) ≡ number s
  unfolding sheet_faults
  all_good = eqb-true _ _ (not-false _ h.1.1.1.0)

  summed : sum_noted s ≡ sum (take (8 * number s) (records s)) % 4294967296
  unfolding sheet_faults
  summed = eqb-true _ _ (not-false _ h.1.1.1.1.0)

  few : number s ≤ 536870911
  unfolding trailer_distance
  few = omega (arith, apart, from_small (trailer s) (drop_bytes (length s - 16) s b))

  back : (records_of (side_byte s) (entries_of (number s) (records s)) ≡ take (8 * number s) (records s))
      × (known_kinds (entries_of (number s) (records s)) ≡ true)
  back = records_back (side_byte s) (number s) (records s) all_good room bytes
    where
      room : 8 * number s ≤ length (records s)
      room = rw (behind s) (simp length-drop (omega (arith, ends)))

      bytes : Bytes (records s)
      bytes = rw (behind s) (drop_bytes (start s) s b)

  last : trailer_of (number s) (side_byte s) (sum (take (8 * number s) (records s))) ≡ trailer s
  unfolding trailer_distance number side_byte padded sum_noted
  last =
      trailer_back (trailer s) (simp length-drop (omega (arith, ends))) (drop_bytes (length s - 16) s b) (number s)
      (side_byte s) (sum (take (8 * number s) (records s)))
      apart refl refl clean summed

  whole : s ≡ take (start s) s ++ (take (8 * number s) (records s) ++ trailer s)
  unfolding records
  whole =
      let place : length s - 16 ≡ start s + 8 * number s = omega (arith, ends) in
      rw (
        place,
        ← drop-drop (8 * number s) (start s) s,
        take-append-drop (8 * number s) (drop (start s) s),
        take-append-drop (start s) s,
      )

-- a sheet that was read fits, and it and the bytes before it are the file
abbrev pub From : List ℕ → End → Type 0
From s (sheet before sh) = Fits sh × (s ≡ before ++ sheet_bytes sh)
From s (refused n) = Unit

pub writes_back : (s : List ℕ) → Bytes s → From s (end_of s)
unfolding end_of
writes_back s b = by_rows refused _ (From s) (sheet_faults s) (λ n. tt) (λ h. (
  record { few = rw (length_entries (number s) (records s)) (few s b h); known = known s b h; heard = (back s b h).1 },
  whole s b h ∙ rw ((back s b h).0, length_entries (number s) (records s), last s b h),
))

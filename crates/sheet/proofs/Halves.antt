-- How the reader's two halves come together: refusals 31 to 33, and 34 and 35. Assumes nothing.
use Rattle.std.specs.Prelude.{◌+◌, ◌-◌, ◌*◌, ◌%◌, ◌^◌, ◌≤◌, ◌<◌, ◌∷◌, ◌≡◌}
use Rattle.rules.proofs.Common.{ℕ, zero, suc, true, false, List, [], refl}
use Rattle.rules.proofs.Common.{sym, ap, ◌∙◌, length, get_or}
use Rattle.rules.proofs.Common.{take, drop, length-take, length-drop}
use native.Mathlib.Omega.{arith}
use borrow.Author.Tests.{lt-ltb, le-ltb, eq-eqb, ne_eqb, le-leb, lt-leb, ltb-false, eqb-true, not-false}
use lib.Seq.{take_all, get_or-drop, drop-drop}
use Rattle.rules.specs.Leaf.{◌leaving◌}
use Rattle.rules.specs.Lists.{sum}
use Rattle.rules.specs.Refusals.{refusing}
use Rattle.rules.proofs.Refusals.{Clear, clear, by_rows, passed_clear, along, stopped_so}
use Rattle.rules.proofs.Tests.{neither}
use Rattle.sheet.specs.End.{from_four, run, entry_of, entries_of, trailer_distance, number, side_byte, padded}
use Rattle.sheet.specs.End.{three_zeros, sum_noted, start, records, sheet_faults, End, sheet, refused, end_of}
use Rattle.sheet.specs.End.{reading_of, read_sheet}
use Rattle.sheet.specs.Asked.{entry_in}
use Rattle.sheet.specs.Private.{pointed, Pointed, checked}
use Rattle.sheet.specs.End.{Reading, Good, Refused}

-- ---- the trailer's fields, by their places in the file

module _ (s : List ℕ) where
  pub distance_is : trailer_distance s ≡ from_four (drop (length s - 16) s)
  unfolding trailer_distance
  distance_is = refl

  pub number_is : number s ≡ from_four (drop (length s - 16 + 4) s)
  unfolding number
  number_is = rw (drop-drop 4 (length s - 16) s)

  pub side_is : side_byte s ≡ get_or s (length s - 16 + 8) 0
  unfolding side_byte
  side_is = get_or-drop (length s - 16) s 8 0

  pub padded_is : padded s ≡ three_zeros (drop (length s - 16 + 9) s)
  unfolding padded
  padded_is = rw (drop-drop 9 (length s - 16) s)

  pub sum_is : sum_noted s ≡ from_four (drop (length s - 16 + 12) s)
  unfolding sum_noted
  sum_is = rw (drop-drop 12 (length s - 16) s)

-- ---- a table tried in two parts

pub length_entries : (n : ℕ) (s : List ℕ) → length (entries_of n s) ≡ n
unfolding entries_of
length_entries zero s = refl
length_entries (suc n) s = ap suc (length_entries n (drop 8 s))

module _ (s : List ℕ) where
  starts : length (take (start s) s) ≡ start s
  unfolding start
  starts = simp length-take (omega arith)

  -- the reader's answer by the table itself
  read_rows : read_sheet s ≡ refusing (sheet_faults s) Refused (Good (start s) (number s) (side_byte s))
  unfolding read_sheet end_of
  read_rows =
      along reading_of refused _ Refused _ (sheet_faults s) (λ n. refl)
      (λ h. rw (starts, length_entries (number s) (records s)))

  pub read_checked : {a n side : ℕ} → Good a n side ≡ pointed s → checked s ≡ read_sheet s
  unfolding sheet_faults
  read_checked e =
      let first = passed_clear Refused _ (take 3 (sheet_faults s))
      (λ n e. absurd (let z : ◌≡◌ {A = ℕ} 0 1 = cc in omega arith)) e in
      sym (read_rows ∙ clear Refused _ (take 3 (sheet_faults s)) first)

  pub read_refused : {m : ℕ} → Refused m ≡ pointed s → Refused m ≡ read_sheet s
  unfolding sheet_faults
  read_refused e =
      sym (read_rows ∙ stopped_so Refused _ Refused _ (take 3 (sheet_faults s)) (λ n e. cc)
      (λ e. absurd (let z : ◌≡◌ {A = ℕ} 0 1 = cc in omega arith)) e)

  -- records that a trailer points to end where it starts
  pub ends_at : Clear (take 3 (sheet_faults s)) → start s + 8 * number s + 16 ≡ length s
  unfolding sheet_faults start
  ends_at h =
      let long = ltb-false (length s) 16 h.0 in
      let at = neither _ _ h.1.0 in
      let whole : trailer_distance s ≡ 8 * number s = eqb-true _ _ (not-false _ at.0) in
      let within : trailer_distance s ≤ length s - 16 = ltb-false (length s - 16) (trailer_distance s) at.1 in
      omega arith

  pub low_side : Clear (take 3 (sheet_faults s)) → side_byte s ≤ 1
  unfolding sheet_faults
  low_side h = ltb-false 1 (side_byte s) (neither _ _ h.1.1.0).0

  -- what the first half hands to the second
  pub pointed_good : {a n side : ℕ} → Good a n side ≡ pointed s → n < 2 ^ 29 → Pointed s a n side
  pointed_good {a} {n} {side} e few =
      by_rows Refused _ (λ r. Good a n side ≡ r → Pointed s a n side) (take 3 (sheet_faults s))
      (λ m x. absurd (let z : ◌≡◌ {A = ℕ} 0 1 = cc in omega arith)) good e
    where
      good : Clear (take 3 (sheet_faults s)) → Good a n side ≡ Good (start s) (number s) (side_byte s)
          → Pointed s a n side
      good h x =
          let starts : a ≡ start s = cc in
          let counts : n ≡ number s = cc in
          let sided : side ≡ side_byte s = cc in
          record {
            starts = starts;
            counts = counts;
            sided = sided;
            ends = omega (arith, ends_at h);
            few = few;
            known = omega (arith, low_side h);
          }

-- ---- each answer of the first half

module _ (s : List ℕ) where
  pub at_31 : length s < 16 → Refused 31 ≡ pointed s
  unfolding sheet_faults
  at_31 h = rw (lt-ltb (length s) 16 h)

  module _ {d n : ℕ} (ds : d ≡ trailer_distance s) (ns : n ≡ number s) (long : 16 ≤ length s) where
    pub at_32 : (d ≡ 8 * n → ⊥) → Refused 32 ≡ pointed s
    unfolding sheet_faults
    at_32 h = rw (← ds, ← ns, le-ltb (length s) 16 long, ne_eqb d (8 * n) h)

    pub at_32' : d ≡ 8 * n → length s - 16 < d → Refused 32 ≡ pointed s
    unfolding sheet_faults
    at_32' e h = rw (← ds, ← ns, le-ltb (length s) 16 long, eq-eqb d (8 * n) e, lt-ltb (length s - 16) d h)

    module _ {side : ℕ} (whole : d ≡ 8 * n) (within : d ≤ length s - 16) (ss : side ≡ side_byte s) where
      pub at_33 : 1 < side → Refused 33 ≡ pointed s
      unfolding sheet_faults
      at_33 h =
          rw (
            ← ds,
            ← ns,
            ← ss,
            le-ltb (length s) 16 long,
            eq-eqb d (8 * n) whole,
            le-ltb (length s - 16) d within,
            lt-ltb 1 side h,
          )

      pub at_33' : side ≤ 1 → padded s ≡ false → Refused 33 ≡ pointed s
      unfolding sheet_faults
      at_33' h z =
          rw (
            ← ds,
            ← ns,
            ← ss,
            le-ltb (length s) 16 long,
            eq-eqb d (8 * n) whole,
            le-ltb (length s - 16) d within,
            le-ltb 1 side h,
            z,
          )

      pub at_good : side ≤ 1 → padded s ≡ true → Good (length s - 16 - d) n side ≡ pointed s
      unfolding sheet_faults start
      at_good h z =
          rw (
            ← ds,
            ← ns,
            ← ss,
            le-ltb (length s) 16 long,
            eq-eqb d (8 * n) whole,
            le-ltb (length s - 16) d within,
            le-ltb 1 side h,
            z,
          )

-- ---- and of the second

module _ (s : List ℕ) {a n side : ℕ} (p : Pointed s a n side) where
  part_is : take (a + 8 * n - a) (drop a s) ≡ take (8 * number s) (records s)
  unfolding records
  part_is = let size : a + 8 * n - a ≡ 8 * n = omega arith in rw (size, p.starts, p.counts)

  tail_is : take (length s - a) (drop a s) ≡ records s
  unfolding records
  tail_is = take_all (length s - a) (drop a s) (simp length-drop (omega arith)) ∙ rw p.starts

  noted_is : from_four (drop (a + 8 * n + 12) s) ≡ sum_noted s
  noted_is = let place : length s - 16 + 12 ≡ a + 8 * n + 12 = omega (arith, p.ends) in rw (sum_is s, place)

  pub at_34 : {r : ℕ} → r ≡ run side n (take (length s - a) (drop a s)) → (r ≡ n → ⊥) → Refused 34 ≡ checked s
  unfolding sheet_faults
  at_34 {r} rs h = rw (← tail_is, ← p.counts, ← p.sided, ← rs, ne_eqb r n h)

  module _ {r t noted : ℕ} (rs : r ≡ run side n (take (length s - a) (drop a s)))
      (ts : t ≡ sum (take (a + 8 * n - a) (drop a s)))
      (os : noted ≡ from_four (drop (a + 8 * n + 12) s)) (all : r ≡ n) where
    pub at_35 : (t % 4294967296 ≡ noted → ⊥) → Refused 35 ≡ checked s
    unfolding sheet_faults
    at_35 h =
        rw (
          ← part_is,
          ← tail_is,
          ← p.counts,
          ← p.sided,
          ← rs,
          eq-eqb r n all,
          ← noted_is,
          ← os,
          ← ts,
          ne_eqb noted (t % 4294967296) (λ e. h (sym e)),
        )

    pub at_all : t % 4294967296 ≡ noted → Good a n side ≡ checked s
    unfolding sheet_faults
    at_all e =
        rw (
          ← part_is,
          ← tail_is,
          ← p.starts,
          ← p.counts,
          ← p.sided,
          ← rs,
          eq-eqb r n all,
          ← noted_is,
          ← os,
          ← ts,
          eq-eqb noted (t % 4294967296) (sym e),
        )

-- ---- an entry of what was read

entry_in_lem : (n i : ℕ) (s : List ℕ) → i < n → get_or (entries_of n s) i 0 ≡ entry_of (drop (8 * i) s)
unfolding entries_of
entry_in_lem zero i s h = absurd (omega arith)
entry_in_lem (suc n) zero s h = refl
entry_in_lem (suc n) (suc i) s h =
    let next : 8 + 8 * i ≡ 8 * suc i = omega arith in
    entry_in_lem n i (drop 8 s) (omega arith) ∙ rw (drop-drop (8 * i) 8 s, next)

pub behind : (s : List ℕ) → records s ≡ drop (start s) s
unfolding records
behind s = refl

module _ (s : List ℕ) (i : ℕ) (out : List ℕ) where
  -- what an entry is asked of, by the reader's answer
  by_reading_lem : (P : End → Type 0) (Q : Reading → Type 0) → ((m : ℕ) → Q (Refused m) → P (refused m))
      → (Clear (sheet_faults s) → Q (Good (start s) (number s) (side_byte s))
      → P (sheet (take (start s) s) (record { side = side_byte s; entries = entries_of (number s) (records s) })))
      → Q (read_sheet s) → P (end_of s)
  unfolding read_sheet end_of
  by_reading_lem P Q bad good = by_rows refused _ (λ x. Q (reading_of x) → P x) (sheet_faults s) bad
      (λ h q. good h (rw (starts s, length_entries (number s) (records s)) at q))

  pub entry_refused : {m : ℕ} → Refused m ≡ read_sheet s → entry_in (end_of s) i out ≡ (m leaving out)
  entry_refused {m} = by_reading_lem (λ x. entry_in x i out ≡ (m leaving out)) (λ r. Refused m ≡ r)
      (λ k e. let same : m ≡ k = cc in rw same)
      (λ h e. absurd (let z : ◌≡◌ {A = ℕ} 0 1 = cc in omega arith))

  module _ {a n side : ℕ} where
    pub entry_none : Good a n side ≡ read_sheet s → n ≤ i → entry_in (end_of s) i out ≡ (5 leaving out)
    entry_none e h = by_reading_lem (λ x. entry_in x i out ≡ (5 leaving out)) (λ r. Good a n side ≡ r)
        (λ k e. absurd (let z : ◌≡◌ {A = ℕ} 0 1 = cc in omega arith))
        (λ c e.
        let same : n ≡ number s = cc in rw (length_entries (number s) (records s), le-leb (number s) i (omega arith))) e

    pub entry_found : Good a n side ≡ read_sheet s → i < n
        → entry_in (end_of s) i out ≡ (0 leaving entry_of (drop (a + 8 * i) s) ∷ [])
    entry_found e h =
        by_reading_lem (λ x. entry_in x i out ≡ (0 leaving entry_of (drop (a + 8 * i) s) ∷ [])) (λ r. Good a n side ≡ r)
        (λ k e. absurd (let z : ◌≡◌ {A = ℕ} 0 1 = cc in omega arith)) (λ c. found) e
      where
        found : Good a n side ≡ Good (start s) (number s) (side_byte s)
            → entry_in (sheet (take (start s) s)
            (record { side = side_byte s; entries = entries_of (number s) (records s) })) i out
            ≡ (0 leaving entry_of (drop (a + 8 * i) s) ∷ [])
        found e =
            let same : number s ≡ n = cc in
            let begins : start s ≡ a = cc in
            rw (
              length_entries (number s) (records s),
              lt-leb (number s) i (omega arith),
              entry_in_lem (number s) i (records s) (omega arith),
              behind s,
              begins,
              drop-drop (8 * i) a s,
            )

-- a good reading's records end where the trailer starts
module _ (s : List ℕ) where
  pub read_within : {a n side : ℕ} → Good a n side ≡ read_sheet s → a + 8 * n + 16 ≡ length s
  unfolding sheet_faults
  read_within {a} {n} {side} e = by_reading_lem s 0 [] (λ x. a + 8 * n + 16 ≡ length s) (λ r. Good a n side ≡ r)
      (λ k e. absurd (let z : ◌≡◌ {A = ℕ} 0 1 = cc in omega arith)) (λ h e.
      let begins : a ≡ start s = cc in
      let counts : n ≡ number s = cc in
      omega (arith, ends_at s (h.0, (h.1.0, (h.1.1.0, tt))))) e

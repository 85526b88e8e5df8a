-- A sheet in parts: each answer of the call that lays records, and that parts in a row are the whole. Assumes nothing.
use Rattle.std.specs.Prelude.{◌+◌, ◌*◌, ◌%◌, ◌≤◌, ◌<◌, ◌∷◌, ◌++◌, ◌≡◌}
use Rattle.rules.proofs.Common.{ℕ, true, false, List, [], refl, sym, ap, ◌∙◌}
use Rattle.rules.proofs.Common.{length, get_or, drop, set}
use Rattle.rules.proofs.Common.{length-append}
use mathlib.Core.List.{append_assoc}
use native.Mathlib.Omega.{arith}
use borrow.Author.Tests.{lt-ltb, le-ltb, eq-eqb, ne_eqb}
use Rattle.rules.specs.Leaf.{◌leaving◌}
use Rattle.rules.specs.Lists.{sum}
use Rattle.rules.proofs.Refusals.{leave_both}
use Rattle.rules.proofs.Places.{all_stored}
use Rattle.sheet.specs.Sheet.{four, records_of, trailer_of}
use Rattle.sheet.specs.Rows.{Tally, with_records, records_laid}
use Rattle.sheet.specs.Laws.{in_row, together, PartsAreWhole}
use Rattle.sheet.specs.Written.{known_kinds}
use Rattle.sheet.proofs.Digits.{four_mod}
use Rattle.sheet.proofs.Laying.{records_append}
use Rattle.sheet.proofs.Runs.{sum_append}

-- a trailer notes a sum by its last 32 bits
noted : (n side s t : ℕ) → s % 4294967296 ≡ t % 4294967296 → trailer_of n side s ≡ trailer_of n side t
unfolding trailer_of
noted n side s t e = let same : four s ≡ four t = sym (four_mod s) ∙ ap four e ∙ four_mod t in rw same

-- a row that goes on with a count and a sum ends in the trailer of all records
on : (side : ℕ) (t : Tally) (parts : List (List ℕ)) → let rs = records_of side (together parts) in
    in_row side t parts ≡ rs ++ trailer_of (t.count + length (together parts)) side (t.total + sum rs)
on side t [] =
    let n : t.count + 0 ≡ t.count = omega arith in
    let s : t.total + 0 ≡ t.total = omega arith in
    rw (n, s)
on side t (es ∷ parts) =
    let rs = records_of side es in
    let more = records_of side (together parts) in
    let n : t.count + length es + length (together parts) ≡ t.count + length (es ++ together parts) =
    simp length-append (omega arith) in
    let s : ((t.total + sum rs) % 4294967296 + sum more) % 4294967296 ≡ (t.total + sum (rs ++ more)) % 4294967296 =
    rw (sum_append rs more) (omega arith) in
    rw (
      on side (with_records side es t) parts,
      n,
      noted (t.count + length (es ++ together parts)) side _ _ s,
      records_append side es (together parts),
    )
    (sym (append_assoc rs more
    (trailer_of (t.count + length (es ++ together parts)) side (t.total + sum (rs ++ more)))))

pub parts_are_whole : PartsAreWhole
parts_are_whole side parts =
    let n : 0 + length (together parts) ≡ length (together parts) = omega arith in
    let s : 0 + sum (records_of side (together parts)) ≡ sum (records_of side (together parts)) = omega arith in
    on side (record { count = 0; total = 0 }) parts ∙ rw (n, s)

-- ---- each answer

module _ (side : ℕ) (es numbers out : List ℕ) where
  pub rows_5 : (length numbers ≡ 2 → ⊥) → (5 leaving numbers leaving out) ≡ records_laid side es numbers out
  unfolding records_laid
  rows_5 h = rw (ne_eqb (length numbers) 2 h)

  module _ (two : length numbers ≡ 2) where
    pub rows_32 : 536870911 < get_or numbers 0 0 + length es
        → (32 leaving numbers leaving out) ≡ records_laid side es numbers out
    unfolding records_laid
    rows_32 h = rw (eq-eqb (length numbers) 2 two, lt-ltb 536870911 (get_or numbers 0 0 + length es) h)

    module _ (few : get_or numbers 0 0 + length es ≤ 536870911) where
      pub rows_33 : 1 < side → (33 leaving numbers leaving out) ≡ records_laid side es numbers out
      unfolding records_laid
      rows_33 h =
          rw (eq-eqb (length numbers) 2 two, le-ltb 536870911 (get_or numbers 0 0 + length es) few, lt-ltb 1 side h)

      module _ (known : side ≤ 1) where
        pub rows_34 : known_kinds es ≡ false → (34 leaving numbers leaving out) ≡ records_laid side es numbers out
        unfolding records_laid
        rows_34 h =
            rw (
              eq-eqb (length numbers) 2 two,
              le-ltb 536870911 (get_or numbers 0 0 + length es) few,
              le-ltb 1 side known,
              h,
            )

        module _ (heard : known_kinds es ≡ true) where
          pub rows_36 : length out < 8 * length es → (36 leaving numbers leaving out) ≡ records_laid side es numbers out
          unfolding records_laid
          rows_36 h =
              rw (
                eq-eqb (length numbers) 2 two,
                le-ltb 536870911 (get_or numbers 0 0 + length es) few,
                le-ltb 1 side known,
                heard,
                lt-ltb (length out) (8 * length es) h,
              )

          pub rows_laid : 8 * length es ≤ length out → {bytes : List ℕ} {s : ℕ} → bytes ≡ records_of side es
              → s ≡ sum (records_of side es)
              → (0 leaving set (set numbers 0 (get_or numbers 0 0 + length es)) 1
              ((get_or numbers 1 0 % 4294967296 + s) % 4294967296) leaving bytes ++ drop (8 * length es) out)
              ≡ records_laid side es numbers out
          unfolding records_laid
          rows_laid room {bytes} {s} bs ss =
              let n = get_or numbers 0 0 + length es in
              let low : (get_or numbers 1 0 % 4294967296 + s) % 4294967296 ≡ (get_or numbers 1 0 + s) % 4294967296 =
              omega arith in
              rw (
                eq-eqb (length numbers) 2 two,
                le-ltb 536870911 n few,
                le-ltb 1 side known,
                heard,
                le-ltb (length out) (8 * length es) room,
                ← ss,
                ← bs,
              )
              (leave_both (all_stored numbers (n ∷ ((get_or numbers 1 0 % 4294967296 + s) % 4294967296) ∷ []) two
              ∙ rw low) refl)

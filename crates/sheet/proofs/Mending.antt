-- Mending: what is claimed of it (`mends`), and how its code comes to the answer. Assumes nothing.
use Rattle.std.specs.Prelude.{◌+◌, ◌-◌, ◌*◌, ◌≤◌, ◌&&◌, ◌∷◌, ◌++◌, ◌≡◌}
use Rattle.rules.proofs.Common.{ℕ, Bool, true, false, cond, not, true≢false, List, []}
use Rattle.rules.proofs.Common.{refl, sym, ap, ◌∙◌}
use Rattle.rules.proofs.Common.{eqb, ltb, length, get_or, take, drop, length-take, length-drop, length-append}
use mathlib.Core.List.{append_assoc}
use native.Mathlib.Omega.{arith}
use borrow.Author.Tests.{le-ltb, eq-eqb, ltb-false, eqb-false}
use lib.Seq.{take_all, take_at, drop_at, take-append_seam, drop-append_seam, drop-drop, take-take, take-add}
use Rattle.rules.specs.Leaf.{◌leaving◌}
use Rattle.rules.specs.Lists.{sum, Bytes}
use Rattle.rules.specs.Refusals.{◌when◌, refusing}
use Rattle.rules.proofs.Refusals.{Clear, clear, none_held}
use Rattle.sheet.specs.Sheet.{trailer_of, sheet_bytes}
use Rattle.sheet.specs.End.{read_sheet}
use Rattle.sheet.specs.Mended.{kept, torn, reads_at, records_in, Mended, mended, mend_faults, mend_of}
use Rattle.sheet.specs.Laws.{MendedTo, Mends}
use Rattle.sheet.specs.Private.{closed, copied}
use Rattle.sheet.specs.End.{Good}
use Rattle.sheet.proofs.Halves.{length_entries}
use Rattle.sheet.proofs.Laying.{length_records, length_trailer}
use Rattle.sheet.proofs.Inverse.{Fits, read_back}
use Rattle.sheet.proofs.Back.{drop_bytes}
use Rattle.sheet.proofs.Kept.{kept_room, torn_back, torn_fits, no_longer}

-- ---- what is written

-- bytes that read are copied
copied_to : (s : List ℕ) (place : ℕ) → reads_at place (read_sheet s) ≡ true
    → MendedTo s place (records_in (read_sheet s)) s
copied_to s place e =
    record {
      reads = e;
      counts = refl;
      keeps = refl;
      copies = λ _. refl;
      longest = λ torn. absurd (true≢false (sym e ∙ torn));
    }

-- and else the run behind the audio is kept
run_to : (s : List ℕ) (place : ℕ) → Bytes s → place ≤ length s → reads_at place (read_sheet s) ≡ false
    → Fits (torn (drop place s))
    → MendedTo s place (kept (drop place s)) (take place s ++ sheet_bytes (torn (drop place s)))
run_to s place b h torn-so fits =
    let front : length (take place s) ≡ place = simp length-take (omega arith) in
    let back = read_back (take place s) (torn (drop place s)) fits in
    record {
      reads = rw back (eq-eqb (length (take place s)) place front);
      counts = rw back (length_entries (kept (drop place s)) (drop place s));
      keeps = keeps;
      copies = λ e. absurd (true≢false (sym e ∙ torn-so));
      longest = λ _. no_longer (drop place s);
    }
  where
    keeps : take (place + 8 * kept (drop place s)) (take place s ++ sheet_bytes (torn (drop place s)))
        ≡ take (place + 8 * kept (drop place s)) s
    keeps =
        let n = kept (drop place s) in
        let a = take place s in
        let r = take (8 * n) (drop place s) in
        let t = trailer_of (length (torn (drop place s)).entries) (torn (drop place s)).side (sum r) in
        let long : length (a ++ r)
        ≡ place + 8 * n = simp (length-append, length-take, length-drop)
        (omega (arith, kept_room (drop place s), length-drop place s)) in
        rw (
          torn_back (drop place s) (drop_bytes place s b),
          ← append_assoc a r t,
          take_at (a ++ r) t (place + 8 * n) long,
        ) (sym (take-add place (8 * n) s))

mended_to : (s : List ℕ) (place : ℕ) (numbers out : List ℕ) → Bytes s → Clear (mend_faults s place numbers out)
    → MendedTo s place (mended s place).records (mended s place).bytes
unfolding mended
mended_to s place numbers out b h = of (reads_at place (read_sheet s)) refl h.1.1.0 h.1.1.1.0
  where
    of : (t : Bool) → reads_at place (read_sheet s) ≡ t → not t && eqb (kept (drop place s)) 0 ≡ false
        → not t && ltb 536870911 (kept (drop place s)) ≡ false
        → let m : Mended = cond t (record { bytes = s; records = records_in (read_sheet s) })
        (record { bytes = take place s ++ sheet_bytes (torn (drop place s)); records = kept (drop place s) }) in
        MendedTo s place m.records m.bytes
    of true e none many = copied_to s place e
    of false e none many =
        run_to s place b (ltb-false (length s) place h.1.0) e
        (torn_fits (drop place s) (drop_bytes place s b) (eqb-false _ _ none) (ltb-false _ _ many))

pub mends : Mends
unfolding mend_of
mends s place numbers out told after b e =
    let m = mended s place in
    let rows = mend_faults s place numbers out in
    let right : ℕ × (List ℕ × List ℕ) =
    (0 leaving length m.bytes ∷ m.records ∷ [] leaving m.bytes ++ drop (length m.bytes) out) in
    let c = none_held (λ (p : ℕ × (List ℕ × List ℕ)). p.0) (λ r. r leaving numbers leaving out) right
    (λ n. refl) rows tt (ap (λ (p : ℕ × (List ℕ × List ℕ)). p.0) (sym e)) in
    let done : (0 leaving told leaving after) ≡ right = e ∙ clear (λ r. r leaving numbers leaving out) right rows c in
    rw (
      ap (λ (p : ℕ × (List ℕ × List ℕ)). p.1.0) done,
      ap (λ (p : ℕ × (List ℕ × List ℕ)). p.1.1) done,
      take-append_seam m.bytes (drop (length m.bytes) out),
      drop-append_seam m.bytes (drop (length m.bytes) out),
    )
    (mended_to s place numbers out b c, refl)

-- ---- the two ways to the answer

-- a run of records mended, by the last three refusals
abbrev pub anew : List ℕ → ℕ → List ℕ → List ℕ → ℕ × (List ℕ × List ℕ)
anew s place numbers out =
    let n = kept (drop place s) in
    let bytes = take place s ++ sheet_bytes (torn (drop place s)) in
    refusing (38 when eqb n 0 ∷ 32 when ltb 536870911 n ∷ 36 when ltb (length out) (length bytes) ∷ [])
    (λ r. r leaving numbers leaving out)
    (0 leaving length bytes ∷ n ∷ [] leaving bytes ++ drop (length bytes) out)

module _ (s : List ℕ) (place : ℕ) (numbers out : List ℕ) (two : length numbers ≡ 2) (within : place ≤ length s) where
  pub by_copy : {n side : ℕ} → Good place n side ≡ read_sheet s → copied s n numbers out ≡ mend_of s place numbers out
  unfolding mend_of mended
  by_copy e = rw (eq-eqb (length numbers) 2 two, le-ltb (length s) place within, ← e, eq-eqb place place refl)

  pub by_run : reads_at place (read_sheet s) ≡ false → anew s place numbers out ≡ mend_of s place numbers out
  unfolding mend_of mended
  by_run e = rw (eq-eqb (length numbers) 2 two, le-ltb (length s) place within, e)

-- ---- a run laid into a buffer

pub part_kept : (s : List ℕ) (at : ℕ) → take (length s - at) (drop at s) ≡ drop at s
part_kept s at = take_all (length s - at) (drop at s) (simp length-drop (omega arith))

module _ (s : List ℕ) (at : ℕ) (within : at ≤ length s) {n : ℕ} (hn : n ≡ kept (drop at s)) where
  pub size_anew : length (take at s ++ sheet_bytes (torn (drop at s))) ≡ at + 8 * n + 16
  size_anew = rw hn (simp (length-append, length-take, length_records, length_trailer, length_entries) (omega arith))

  pub run_within : at + 8 * n ≤ length s
  run_within = omega (arith, kept_room (drop at s), length-drop at s)

  pub part_size : (out : List ℕ) {c : List ℕ} → c ≡ take (at + 8 * n) s → at + 8 * n + 16 ≤ length out
      → length (take (at + 8 * n + 16 - at) (drop at (c ++ drop (at + 8 * n) out))) ≡ 8 * n + 16
  part_size out hc room = rw hc (simp (length-take, length-drop, length-append) (omega (arith, run_within)))

  torn_is : Bytes s → {side : ℕ} → side ≡ get_or (drop at s) 5 0
      → sheet_bytes (torn (drop at s)) ≡ take (8 * n) (drop at s) ++ trailer_of n side (sum (take (8 * n) (drop at s)))
  torn_is b hs =
      rw (torn_back (drop at s) (drop_bytes at s b), length_entries (kept (drop at s)) (drop at s), ← hn, ← hs)

  pub lay_anew : (out : List ℕ) → Bytes s → {side : ℕ} → side ≡ get_or (drop at s) 5 0 → {c l : List ℕ}
      → c ≡ take (at + 8 * n) s
      → l ≡ closed n side (take (at + 8 * n + 16 - at) (drop at (c ++ drop (at + 8 * n) out)))
      → take at (c ++ drop (at + 8 * n) out)
      ++ (l ++ drop (at + 8 * n + 16 - at) (drop at (c ++ drop (at + 8 * n) out)))
      ≡ (take at s ++ sheet_bytes (torn (drop at s))) ++ drop (at + 8 * n + 16) out
  lay_anew out b {side} hs {c} {l} hc hl =
      let a = take at s in
      let r = take (8 * n) (drop at s) in
      let x = drop (at + 8 * n) out in
      let t = trailer_of n side (sum r) in
      let la : length a ≡ at = simp length-take (omega arith) in
      let lr : length r ≡ 8 * n = simp (length-take, length-drop) (omega (arith, run_within)) in
      let split : c ++ x ≡ a ++ (r ++ x) = rw (hc, take-add at (8 * n) s) (append_assoc a r x) in
      let size : at + 8 * n + 16 - at ≡ 8 * n + 16 = omega arith in
      let rest : drop (8 * n + 16) (r ++ x) ≡ drop (at + 8 * n + 16) out =
      sym (drop-drop 16 (8 * n) (r ++ x)) ∙ ap (drop 16) (drop_at r x (8 * n) lr) ∙ drop-drop 16 (at + 8 * n) out in
      rw (
        hl,
        split,
        size,
        take_at a (r ++ x) at la,
        drop_at a (r ++ x) at la,
        take-take (8 * n) (8 * n + 16) (r ++ x) (omega arith),
        take_at r x (8 * n) lr,
        rest,
        torn_is b hs,
      )
      (sym (append_assoc a (r ++ t) (drop (at + 8 * n + 16) out)))

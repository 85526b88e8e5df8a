-- The run of good records that mending keeps: no longer one of one side stands in front (`no_longer`). Assumes nothing.
use Rattle.std.specs.Prelude.{◌*◌, ◌/◌, ◌≤◌, ◌<◌, ◌≡◌}
use Rattle.rules.proofs.Common.{ℕ, zero, suc, Bool, true, false, cond, List, refl, ap}
use Rattle.rules.proofs.Common.{ltb, length, get_or, take, drop}
use native.Mathlib.Omega.{arith}
use borrow.Author.Tests.{lt-ltb, le-ltb, ltb-false}
use Rattle.rules.specs.Lists.{Bytes}
use Rattle.sheet.specs.Sheet.{records_of}
use Rattle.sheet.specs.End.{good_record, run, entries_of}
use Rattle.sheet.specs.Mended.{kept, torn}
use Rattle.sheet.proofs.Halves.{length_entries}
use Rattle.sheet.proofs.Inverse.{Fits}
use Rattle.sheet.proofs.Back.{side_good, run_good, records_back}

-- ---- runs

run_most : (side m : ℕ) (s : List ℕ) → run side m s ≤ m
unfolding run
run_most side zero s = omega arith
run_most side (suc m) s = of (good_record side s) (run_most side m (drop 8 s))
  where
    of : (t : Bool) → run side m (drop 8 s) ≤ m → cond t (suc (run side m (drop 8 s))) 0 ≤ suc m
    of true h = omega arith
    of false h = omega arith

-- a run is all good
run_self : (side m : ℕ) (s : List ℕ) → run side (run side m s) s ≡ run side m s
unfolding run
run_self side zero s = refl
run_self side (suc m) s = of (good_record side s) refl (run_self side m (drop 8 s))
  where
    of : (t : Bool) → good_record side s ≡ t → run side (run side m (drop 8 s)) (drop 8 s) ≡ run side m (drop 8 s)
        → run side (cond t (suc (run side m (drop 8 s))) 0) s ≡ cond t (suc (run side m (drop 8 s))) 0
    of true g h = rw g (ap suc h)
    of false g h = refl

-- and the longest
longest : (side k m : ℕ) (s : List ℕ) → run side k s ≡ k → k ≤ m → k ≤ run side m s
unfolding run
longest side zero m s e h = omega arith
longest side (suc k) zero s e h = absurd (omega arith)
longest side (suc k) (suc m) s e h =
    let g = run_good side k s e in
    rw g.0 (omega (arith, longest side k m (drop 8 s) g.1 (omega arith)))

-- ---- what is kept

module _ (s : List ℕ) where
  pub kept_short : length s < 8 → kept s ≡ 0
  unfolding kept run
  kept_short h = let none : length s / 8 ≡ 0 = omega arith in rw none (of (ltb 1 (get_or s 5 0)))
    where
      of : (t : Bool) → ◌≡◌ {A = ℕ} (cond t 0 0) 0
      of true = refl
      of false = refl

  pub kept_none : 1 < get_or s 5 0 → kept s ≡ 0
  unfolding kept
  kept_none h = rw (lt-ltb 1 (get_or s 5 0) h)

  pub kept_run : get_or s 5 0 ≤ 1 → kept s ≡ run (get_or s 5 0) (length s / 8) s
  unfolding kept
  kept_run h = rw (le-ltb 1 (get_or s 5 0) h)

  pub kept_room : 8 * kept s ≤ length s
  unfolding kept
  kept_room = of (ltb 1 (get_or s 5 0)) (run_most (get_or s 5 0) (length s / 8) s)
    where
      of : (t : Bool) → run (get_or s 5 0) (length s / 8) s ≤ length s / 8
          → 8 * cond t 0 (run (get_or s 5 0) (length s / 8) s) ≤ length s
      of true h = omega arith
      of false h = omega arith

  pub kept_known : (kept s ≡ 0 → ⊥) → get_or s 5 0 ≤ 1
  unfolding kept
  kept_known = of (ltb 1 (get_or s 5 0)) refl
    where
      of : (t : Bool) → ltb 1 (get_or s 5 0) ≡ t → (cond t 0 (run (get_or s 5 0) (length s / 8) s) ≡ 0 → ⊥)
          → get_or s 5 0 ≤ 1
      of true e h = absurd (h refl)
      of false e h = ltb-false 1 (get_or s 5 0) e

  kept_all : run (get_or s 5 0) (kept s) s ≡ kept s
  unfolding kept run
  kept_all = of (ltb 1 (get_or s 5 0)) (run_self (get_or s 5 0) (length s / 8) s)
    where
      of : (t : Bool) → run (get_or s 5 0) (run (get_or s 5 0) (length s / 8) s) s ≡ run (get_or s 5 0) (length s / 8) s
          → run (get_or s 5 0) (cond t 0 (run (get_or s 5 0) (length s / 8) s)) s
          ≡ cond t 0 (run (get_or s 5 0) (length s / 8) s)
      of true h = refl
      of false h = h

  -- its records are the bytes that stand there
  pub torn_back : Bytes s → records_of (get_or s 5 0) (entries_of (kept s) s) ≡ take (8 * kept s) s
  torn_back b = (records_back (get_or s 5 0) (kept s) s kept_all kept_room b).0

  pub torn_fits : Bytes s → (kept s ≡ 0 → ⊥) → kept s ≤ 536870911 → Fits (torn s)
  torn_fits b some few = record {
    few = rw (length_entries (kept s) s) few;
    known = kept_known some;
    heard = (records_back (get_or s 5 0) (kept s) s kept_all kept_room b).1;
  }

  pub no_longer : (side m : ℕ) → side ≤ 1 → 8 * m ≤ length s → run side m s ≡ m → m ≤ kept s
  no_longer side zero h room e = omega arith
  no_longer side (suc m) h room e =
      let same : get_or s 5 0 ≡ side = side_good side s (run_good side m s e).0 in
      rw (kept_run (omega arith), same) (longest side (suc m) (length s / 8) s e (omega arith))

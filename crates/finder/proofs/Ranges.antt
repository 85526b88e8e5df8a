-- How far the places reach: no index leaves its list, and the period is 60 to 767. Assumes nothing.
use Rattle.std.specs.Prelude.{◌+◌, ◌-◌, ◌*◌, ◌/◌, ◌≤◌, ◌<◌, ◌&&◌, ◌≡◌}
use Rattle.rules.proofs.Common.{ℕ, zero, suc, Bool, true, false, cond, List}
use Rattle.rules.proofs.Common.{refl, eqb, leb, ltb, length}
use Rattle.rules.proofs.Common.{drop, Float, lt}
use native.Mathlib.Nat.{div-lt_iff_lt-mul, mul-le-mul}
use native.Mathlib.Omega.{arith}
use borrow.Author.Tests.{ltb-true, ltb-false, eqb-false, ne_eqb}
use lib.Dec.{leb→le}
use Rattle.rules.specs.F32.{at, nat_at, ◌⊕◌, ◌⊖◌, ◌⊗◌, ◌⊘◌, f32}
use Rattle.rules.specs.Loop.{walk, Flow, go, stop, value, and_then}
use Rattle.rules.proofs.Lists.{length_tab}
use Rattle.rules.proofs.Tests.{at_each}
use Rattle.pitch.specs.Xcorr.{pitch_xcorr}
use Rattle.pitch.specs.Downsample.{downsampled}
use Rattle.pitch_search.specs.Best.{best_of, first_of, second_of}
use Rattle.pitch_search.proofs.Firsts.{first_below, second_below}
use Rattle.finder.specs.declared.doubling.Asked.{Asked}
use Rattle.finder.specs.declared.doubling.Chosen.{Chosen}
use Rattle.finder.specs.Search.{leaning, every_second, coarse, fine, interpolated, pitch_search}
use Rattle.finder.specs.Doubling.{shortened, second_check, second_place, pitch_gain, product_at, threshold, preferred}
use Rattle.finder.specs.Doubling.{shorter_step, shorter, period_at, removed}
use Rattle.finder.specs.Finder.{process}
use Rattle.finder.specs.Laws.{PeriodInRange}

-- ---- the search

pub lean_small : (a b c : Float) → leaning a b c ≤ 2
unfolding leaning
lean_small a b c = by (lt (f32 0x3F333333 ⊗ (b ⊖ a)) (c ⊖ a)) (lt (f32 0x3F333333 ⊗ (b ⊖ c)) (a ⊖ c))
  where
    by : (s t : Bool) → cond s 2 (cond t 0 1) ≤ 2
    by true t = omega arith
    by false true = omega arith
    by false false = omega arith

pub lean_of : (a b c : Float) {r : ℕ} → r ≡ leaning a b c → r ≤ 2
lean_of a b c e = rw e (lean_small a b c)

pub coarse_small : (buf : List Float) → (first_of (coarse buf) < 147) × (second_of (coarse buf) < 147)
unfolding coarse pitch_xcorr
coarse_small buf =
    let x4 = every_second 240 (drop 384 buf) in
    let y4 = every_second 387 buf in
    let size : length (pitch_xcorr x4 y4 147) ≡ 147 = length_tab 147 _ in (
      rw size at (first_below (pitch_xcorr x4 y4 147) y4 240 (omega arith)),
      rw size at (second_below (pitch_xcorr x4 y4 147) y4 240 (omega arith)),
    )

pub length_fine : (buf : List Float) (first second : ℕ) → length (fine buf first second) ≡ 294
unfolding fine
length_fine buf first second = length_tab 294 _

pub best_small : (buf : List Float) (first second : ℕ) → first_of (best_of (fine buf first second) buf 480) < 294
best_small buf first second =
    rw length_fine at (first_below (fine buf first second) buf 480 (rw length_fine (omega arith)))

interpolated_small : (xcorr : List Float) (best : ℕ) → best < 294 → interpolated xcorr best ≤ 586
interpolated_small xcorr best h = by (ltb 0 best) (ltb best 293) refl
  where
    by : (s t : Bool) → ltb best 293 ≡ t
        → cond (s && t) (2 * best + 1 - leaning (at xcorr (best - 1)) (at xcorr best) (at xcorr (best + 1))) (2 * best)
        ≤ 586
    by true true e = omega (arith, ltb-true best 293 e)
    by true false e = omega arith
    by false t e = omega arith

pub search_small : (buf : List Float) → pitch_search buf ≤ 586
unfolding pitch_search
search_small buf =
    let xcorr = fine buf (first_of (coarse buf)) (second_of (coarse buf)) in
    interpolated_small xcorr (first_of (best_of xcorr buf 480))
    (best_small buf (first_of (coarse buf)) (second_of (coarse buf)))

-- ---- the shorter periods

pub shortened_small : (t0 k : ℕ) → t0 ≤ 383 → 2 ≤ k → shortened t0 k ≤ 383
shortened_small t0 k h g =
    let below : (2 * t0 + k) / (2 * k) < 384 =
    (div-lt_iff_lt-mul {k = 2 * k} {x = 2 * t0 + k} {y = 384} (omega arith)).1 (omega arith) in
    omega arith

-- from 3 on no more than k of k parts
right : ℕ → Bool
unfolding second_check
right k = cond (eqb k 2) true (leb (nat_at second_check k) k)

pub check_small : {table : List ℕ} (k : ℕ) → table ≡ second_check → k ≤ 15 → (k ≡ 2 → ⊥) → nat_at table k ≤ k
unfolding second_check right
check_small k same h other = rw same (leb→le _ _ (rw (ne_eqb k 2 other) at (at_each 16 right tt k (omega arith))))

pub check_product : {table : List ℕ} (t0 k : ℕ) → table ≡ second_check → t0 ≤ 383 → k ≤ 15 → (k ≡ 2 → ⊥)
    → 2 * nat_at table k * t0 ≤ 2 * k * 383
check_product t0 k same h g other = mul-le-mul (omega (arith, check_small k same g other)) h

pub second_small : (t0 t1 k : ℕ) → t0 ≤ 383 → 2 ≤ k → k ≤ 15 → second_place t0 t1 k ≤ 384
unfolding second_place
second_small t0 t1 k h least most = by (eqb k 2) refl (ltb 384 (t1 + t0)) refl
  where
    by : (s : Bool) → eqb k 2 ≡ s → (t : Bool) → ltb 384 (t1 + t0) ≡ t
        → cond s (cond t t0 (t0 + t1)) ((2 * nat_at second_check k * t0 + k) / (2 * k)) ≤ 384
    by true e true f = omega arith
    by true e false f = omega (arith, ltb-false 384 (t1 + t0) f)
    by false e t f =
        let below : (2 * nat_at second_check k * t0 + k) / (2 * k) < 385 =
        (div-lt_iff_lt-mul {k = 2 * k} {x = 2 * nat_at second_check k * t0 + k} {y = 385} (omega arith)).1
        (omega (arith, check_product t0 k refl h most (eqb-false k 2 e))) in
        omega arith

-- a period that may be looked at from both sides
pub record Inner (t : ℕ) : Type 0 where
  pub least : 30 ≤ t
  pub most : t ≤ 383

-- what each turn keeps is kept
walk_kept : {S : Type 0} (body : ℕ → S → Flow S) (P : S → Type 0) → ((i : ℕ) (s : S) → P s → P (value (body i s)))
    → (n : ℕ) (s : S) → P s
    → P (value (walk n body s))
unfolding walk
walk_kept body P turn zero s h = h
walk_kept {S} body P turn (suc n) s h = on (walk n body s) (walk_kept body P turn n s h)
  where
    on : (f : Flow S) → P (value f) → P (value (and_then f (body n)))
    on (go t) p = turn n t p
    on (stop t) p = p

preferred_inner : (x lookup : List Float) (a : Asked) (t1 k : ℕ) (best : Chosen) → Inner t1 → Inner best.t
    → Inner (preferred x lookup a t1 k best).t
unfolding preferred
preferred_inner x lookup a t1 k best p q =
    let t1b = second_place a.t0 t1 k in
    let xy = (product_at x t1 ⊕ product_at x t1b) ⊘ f32 0x40000000 in
    let yy = (at lookup t1 ⊕ at lookup t1b) ⊘ f32 0x40000000 in
    let g1 = pitch_gain xy a.xx yy in
    by (lt (threshold a t1 k) g1) (record { xy = xy; yy = yy; t = t1; g = g1 }) p
  where
    by : (s : Bool) (new : Chosen) → Inner new.t → Inner (cond s new best).t
    by true new p = p
    by false new p = q

pub shorter_inner : (x lookup : List Float) (a : Asked) (start : Chosen) → a.t0 ≤ 383 → Inner start.t
    → Inner (shorter x lookup a start).t
unfolding shorter
shorter_inner x lookup a start h = walk_kept (shorter_step x lookup a) (λ best. Inner best.t) turn 14 start
  where
    turn : (i : ℕ) (best : Chosen) → Inner best.t → Inner (value (shorter_step x lookup a i best)).t
    turn i best p = by (ltb (shortened a.t0 (i + 2)) 30) refl
      where
        by : (s : Bool) → ltb (shortened a.t0 (i + 2)) 30 ≡ s
            → Inner (value (cond s (stop best) (go (preferred x lookup a (shortened a.t0 (i + 2)) (i + 2) best)))).t
        by true e = p
        by false e =
            preferred_inner x lookup a (shortened a.t0 (i + 2)) (i + 2) best
            (record {
              least = ltb-false (shortened a.t0 (i + 2)) 30 e;
              most = shortened_small a.t0 (i + 2) h (omega arith);
            }) p

pub best_inner : (x lookup : List Float) (a : Asked) (start : Chosen) {best : Chosen} → best ≡ shorter x lookup a start
    → a.t0 ≤ 383 → Inner start.t → Inner best.t
best_inner x lookup a start e h p = rw e (shorter_inner x lookup a start h p)

-- ---- the period

pub period_small : (x : List Float) (t : ℕ) → Inner t → (60 ≤ period_at x t) × (period_at x t ≤ 767)
period_small x t h =
    (omega arith, omega (arith, lean_small (product_at x (t - 1)) (product_at x t) (product_at x (t + 1))))

pub period_in_range : PeriodInRange
unfolding process removed
period_in_range lastPeriod lastGain input =
    let buf = downsampled input in
    period_small buf _ (shorter_inner buf _ _ _ (omega arith)
    (record { least = omega (arith, search_small buf); most = omega arith }))

-- A kept lag, as a whole number: it is at most 768 (`lag_small`), and of a whole number up to there it is that number
-- (`lag_back`). Assumes nothing.
use Rattle.std.specs.Prelude.{◌+◌, ◌*◌, ◌≤◌, ◌<◌, ◌≡◌}
use Rattle.rules.proofs.Common.{ℕ, zero, suc, Bool, true, false, cond, true≢false, refl, sym}
use Rattle.rules.proofs.Common.{ap, ◌∙◌, leb, T, pos, Float}
use Rattle.rules.proofs.Common.{binary32, nan, inf, fin, up, down}
use Prim.Native.Nat.{min}
use native.Mathlib.Nat.{mul-one, mul_right_comm, mul-lt-mul_of_pos_right}
use native.Mathlib.Omega.{arith}
use borrow.Author.Tests.{leb-true, leb-false, le-ltb, ne_eqb}
use lib.Ieee.{of_int, lt, eq, le}
use lib.Ieee.Back.{round_whole}
use lib.Ieee.Exact.{HasValue}
use lib.Ieee.Fits.{down_pos}
use lib.Ieee.Order.{le_of_values}
use Rattle.rules.specs.Loop.{loop, range}
use Rattle.finder.specs.Kept.{lag_step, whole_lag}
use Rattle.finder.specs.Laws.{LagIsSmall, LagIsBack}

-- after n turns it is at most n
upto : (x : Float) (n : ℕ) → loop n (λ k. lag_step x (1 + k)) 0 ≤ n
unfolding loop
upto x zero = omega arith
upto x (suc n) = either (le (of_int binary32 (pos (1 + n))) x) (omega arith) (upto x n)
  where
    either : (t : Bool) {k l : ℕ} → k ≤ suc n → l ≤ n → cond t k l ≤ suc n
    either true g h = g
    either false g h = omega arith

pub lag_small : LagIsSmall
unfolding whole_lag range
lag_small x = upto x 768

-- ---- of a small whole number it is that number

T_true : (t : Bool) → T t → t ≡ true
T_true true h = refl
T_true false h = absurd h

whole_value : (n : ℕ) → n ≤ 768 → HasValue (of_int binary32 (pos n)) false n 1
unfolding of_int
whole_value n h = round_whole binary32 false n (omega arith)

above : (x y : Float) (k l : ℕ) → HasValue x false k 1 → HasValue y false l 1 → l < k → le x y ≡ false
unfolding le lt eq
above nan y k l v w h = absurd v
above (inf s) y k l v w h = absurd v
above (fin true m e) y k l v w h = absurd (true≢false v.0)
above (fin false m e) nan k l v w h = absurd w
above (fin false m e) (inf t) k l v w h = absurd w
above (fin false m e) (fin true n d) k l v w h = absurd (true≢false w.0)
above (fin false m e) (fin false n d) k l v w h =
    let left : m * up e * down d ≡ k * down e * down d = ap (λ (a : ℕ). a * down d) (sym (mul-one (m * up e)) ∙ v.1) in
    let right : n * up d * down e ≡ l * down e * down d =
    ap (λ (a : ℕ). a * down e) (sym (mul-one (n * up d)) ∙ w.1) ∙ mul_right_comm l (down d) (down e) in
    let less : l * down e * down d < k * down e * down d =
    mul-lt-mul_of_pos_right (mul-lt-mul_of_pos_right h (down_pos e)) (down_pos d) in
    rw (
      left,
      right,
      le-ltb (k * down e * down d) (l * down e * down d) (omega (arith, less)),
      ne_eqb (k * down e * down d) (l * down e * down d) (λ z. omega (arith, less)),
    )

module _ (lag : ℕ) (small : lag ≤ 768) where
  abbrev kept : Float
  kept = of_int binary32 (pos lag)

  -- after n turns it is n, or the lag
  counted : (n : ℕ) → n ≤ 768 → loop n (λ k. lag_step kept (1 + k)) 0 ≡ min n lag
  unfolding loop
  counted zero h = omega arith
  counted (suc n) h = go (leb (1 + n) lag) refl (counted n (omega arith))
    where
      go : (t : Bool) → leb (1 + n) lag ≡ t → {so_far : ℕ} → so_far ≡ min n lag
          → lag_step kept (1 + n) so_far ≡ min (suc n) lag
      go true e d =
          let below = leb-true (1 + n) lag e in
          rw (T_true (le (of_int binary32 (pos (1 + n))) kept)
          (le_of_values (of_int binary32 (pos (1 + n))) kept (1 + n) 1 lag 1 (omega arith) (omega arith)
          (whole_value (1 + n) (omega arith)) (whole_value lag small) (omega arith)))
          (omega arith)
      go false e d =
          let over = leb-false (1 + n) lag e in
          rw (above (of_int binary32 (pos (1 + n))) kept (1 + n) lag (whole_value (1 + n) (omega arith))
          (whole_value lag small) over)
          (d ∙ omega arith)

pub lag_back : LagIsBack
unfolding whole_lag range
lag_back lag small = counted lag small 768 (omega arith) ∙ omega arith

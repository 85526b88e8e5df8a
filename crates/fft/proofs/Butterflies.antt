-- The transforms of two to five numbers are sums over the circle. Assumes nothing.
use Rattle.std.specs.Prelude.{◌+◌, ◌*◌, ◌<◌, ◌∷◌, ◌≡◌}
use Rattle.rules.proofs.Common.{ℕ, zero, suc, cond, List, [], refl, sym, ap, ◌∙◌, eqb}
use native.Mathlib.Omega.{arith}
use Rattle.fft.specs.Ops.{Ops, Complex}
use Rattle.fft.specs.Exact.{Ring, Cosines}
use Rattle.fft.specs.Fast.{of_two, of_three, of_four, of_five}
use Rattle.fft.proofs.Solver.{Expr, var, nil, unit, sub, exprs}
use Rattle.fft.proofs.Circle.{zero_c, plus_c, times_c, pair_e, one_e, both, solve_c, sum_c, e, e_start, e_turns}

-- a point and its mirror image
abbrev back_e : ℕ → ℕ → Complex Expr
back_e i j = record { re = var i; im = sub nil (var j) }

abbrev minus_one_e : Complex Expr
minus_one_e = record { re = sub nil unit; im = nil }

abbrev minus_i_e : Complex Expr
minus_i_e = record { re = nil; im = sub nil unit }

abbrev plus_i_e : Complex Expr
plus_i_e = record { re = nil; im = unit }

module _ {A : Type 0} (o : Ops A) where
  abbrev pub dot2 : Complex A → Complex A → Complex A → Complex A → Complex A
  dot2 x0 x1 w0 w1 = plus_c o (plus_c o (zero_c o) (times_c o x0 w0)) (times_c o x1 w1)

  dot2_same : (x0 x1 : Complex A) {w0 w1 v0 v1 : Complex A} → w0 ≡ v0 → w1 ≡ v1 → dot2 x0 x1 w0 w1 ≡ dot2 x0 x1 v0 v1
  dot2_same x0 x1 p0 p1 = rw (p0, p1)

  abbrev pub dot3 : Complex A → Complex A → Complex A → Complex A → Complex A → Complex A → Complex A
  dot3 x0 x1 x2 w0 w1 w2 = plus_c o (plus_c o (plus_c o (zero_c o) (times_c o x0 w0)) (times_c o x1 w1))
      (times_c o x2 w2)

  dot3_same : (x0 x1 x2 : Complex A) {w0 w1 w2 v0 v1 v2 : Complex A} → w0 ≡ v0 → w1 ≡ v1 → w2 ≡ v2
      → dot3 x0 x1 x2 w0 w1 w2 ≡ dot3 x0 x1 x2 v0 v1 v2
  dot3_same x0 x1 x2 p0 p1 p2 = rw (p0, p1, p2)

  abbrev pub dot4 : Complex A → Complex A → Complex A → Complex A → Complex A → Complex A → Complex A → Complex A
      → Complex A
  dot4 x0 x1 x2 x3 w0 w1 w2 w3 =
      plus_c o (plus_c o (plus_c o (plus_c o (zero_c o) (times_c o x0 w0)) (times_c o x1 w1)) (times_c o x2 w2))
      (times_c o x3 w3)

  dot4_same : (x0 x1 x2 x3 : Complex A) {w0 w1 w2 w3 v0 v1 v2 v3 : Complex A} → w0 ≡ v0 → w1 ≡ v1 → w2 ≡ v2 → w3 ≡ v3
      → dot4 x0 x1 x2 x3 w0 w1 w2 w3 ≡ dot4 x0 x1 x2 x3 v0 v1 v2 v3
  dot4_same x0 x1 x2 x3 p0 p1 p2 p3 = rw (p0, p1, p2, p3)

  abbrev pub dot5 : Complex A → Complex A → Complex A → Complex A → Complex A → Complex A → Complex A → Complex A
      → Complex A → Complex A → Complex A
  dot5 x0 x1 x2 x3 x4 w0 w1 w2 w3 w4 =
      plus_c o (plus_c o (plus_c o (plus_c o (plus_c o (zero_c o) (times_c o x0 w0)) (times_c o x1 w1))
      (times_c o x2 w2))
      (times_c o x3 w3)) (times_c o x4 w4)

  dot5_same : (x0 x1 x2 x3 x4 : Complex A) {w0 w1 w2 w3 w4 v0 v1 v2 v3 v4 : Complex A} → w0 ≡ v0 → w1 ≡ v1 → w2 ≡ v2
      → w3 ≡ v3 → w4 ≡ v4 → dot5 x0 x1 x2 x3 x4 w0 w1 w2 w3 w4 ≡ dot5 x0 x1 x2 x3 x4 v0 v1 v2 v3 v4
  dot5_same x0 x1 x2 x3 x4 p0 p1 p2 p3 p4 = rw (p0, p1, p2, p3, p4)

module _ {A : Type 0} (o : Ops A) (R : Ring o) (c : ℕ → A) (K : Cosines o R.one c) where
  abbrev E : ℕ → Complex A
  E m = e o R c K m

  abbrev back : ℕ → Complex A
  back m = record { re = c m; im = o.minus o.nought (c (m + 240)) }

  -- the point as far back as m is ahead
  mirrored : (m n : ℕ) → m + n ≡ 960 → (h : ℕ) → h + 240 ≡ n → m + 240 + h ≡ 960 → E n ≡ back m
  mirrored m n p h q s =
      let on : n + 240 ≡ h + 480 = omega arith in
      both o R (sym (K.mirror m n p))
      (rw on (K.opposite h ∙ ap (λ (v : A). o.minus o.nought v) (sym (K.mirror (m + 240) h s))))

  abbrev minus_one : Complex A
  minus_one = record { re = o.minus o.nought R.one; im = o.nought }

  start_back : E 480 ≡ minus_one
  start_back =
      both o R (K.opposite 0 ∙ ap (λ (v : A). o.minus o.nought v) K.start)
      (sym (K.mirror 240 720 refl) ∙ K.quarter)

  abbrev minus_i : Complex A
  minus_i = record { re = o.nought; im = o.minus o.nought R.one }

  e_240 : E 240 ≡ minus_i
  e_240 = both o R K.quarter (K.opposite 0 ∙ ap (λ (v : A). o.minus o.nought v) K.start)

  abbrev plus_i : Complex A
  plus_i = record { re = o.nought; im = R.one }

  e_720 : E 720 ≡ plus_i
  e_720 = both o R (sym (K.mirror 240 720 refl) ∙ K.quarter) (sym (K.mirror 0 960 refl) ∙ K.start)

  abbrev list2 : (ℕ → Complex A) → List A
  list2 x = (x 0).re ∷ (x 0).im ∷ (x 1).re ∷ (x 1).im ∷ []

  pub two_right : (x : ℕ → Complex A) (q : ℕ) → q < 2
      → of_two o (x 0) (x 1) q ≡ sum_c o R 2 (λ j. times_c o (x j) (E (480 * (j * q))))
  unfolding sum_c
  two_right x zero h =
      solve_c o R (list2 x) (of_two exprs (pair_e 0 1) (pair_e 2 3) 0)
      (plus_c exprs (plus_c exprs (zero_c exprs) (times_c exprs (pair_e 0 1) (one_e)))
      (times_c exprs (pair_e 2 3) (one_e))) refl
      refl
      ∙ dot2_same o (x 0) (x 1) (sym (e_start o R c K)) (sym (e_start o R c K))
  two_right x (suc zero) h =
      solve_c o R (list2 x) (of_two exprs (pair_e 0 1) (pair_e 2 3) 1)
      (plus_c exprs (plus_c exprs (zero_c exprs) (times_c exprs (pair_e 0 1) (one_e)))
      (times_c exprs (pair_e 2 3) (minus_one_e)))
      refl refl
      ∙ dot2_same o (x 0) (x 1) (sym (e_start o R c K)) (sym (start_back))
  two_right x (suc (suc q)) h = absurd (omega arith)

  abbrev c3 : ℕ → Expr
  c3 m = (cond (eqb m 320) (var 6) (cond (eqb m 560) (var 7) nil))

  abbrev list3 : (ℕ → Complex A) → List A
  list3 x = (x 0).re ∷ (x 0).im ∷ (x 1).re ∷ (x 1).im ∷ (x 2).re ∷ (x 2).im ∷ c 320 ∷ c 560 ∷ []

  pub three_right : (x : ℕ → Complex A) (q : ℕ) → q < 3
      → of_three o c (x 0) (x 1) (x 2) q ≡ sum_c o R 3 (λ j. times_c o (x j) (E (320 * (j * q))))
  unfolding sum_c
  three_right x zero h =
      solve_c o R (list3 x) (of_three exprs c3 (pair_e 0 1) (pair_e 2 3) (pair_e 4 5) 0)
      (plus_c exprs (plus_c exprs (plus_c exprs (zero_c exprs) (times_c exprs (pair_e 0 1) (one_e)))
      (times_c exprs (pair_e 2 3) (one_e))) (times_c exprs (pair_e 4 5) (one_e))) refl refl
      ∙ dot3_same o (x 0) (x 1) (x 2) (sym (e_start o R c K)) (sym (e_start o R c K)) (sym (e_start o R c K))
  three_right x (suc zero) h =
      solve_c o R (list3 x) (of_three exprs c3 (pair_e 0 1) (pair_e 2 3) (pair_e 4 5) 1)
      (plus_c exprs (plus_c exprs (plus_c exprs (zero_c exprs) (times_c exprs (pair_e 0 1) (one_e)))
      (times_c exprs (pair_e 2 3) (pair_e 6 7))) (times_c exprs (pair_e 4 5) (back_e 6 7))) refl refl
      ∙ dot3_same o (x 0) (x 1) (x 2) (sym (e_start o R c K)) (refl) (sym (mirrored 320 640 refl 400 refl refl))
  three_right x (suc (suc zero)) h =
      solve_c o R (list3 x) (of_three exprs c3 (pair_e 0 1) (pair_e 2 3) (pair_e 4 5) 2)
      (plus_c exprs (plus_c exprs (plus_c exprs (zero_c exprs) (times_c exprs (pair_e 0 1) (one_e)))
      (times_c exprs (pair_e 2 3) (back_e 6 7))) (times_c exprs (pair_e 4 5) (pair_e 6 7))) refl refl
      ∙ dot3_same o (x 0) (x 1) (x 2) (sym (e_start o R c K)) (sym (mirrored 320 640 refl 400 refl refl))
      (sym (e_turns o R c K 320 1))
  three_right x (suc (suc (suc q))) h = absurd (omega arith)

  abbrev list4 : (ℕ → Complex A) → List A
  list4 x = (x 0).re ∷ (x 0).im ∷ (x 1).re ∷ (x 1).im ∷ (x 2).re ∷ (x 2).im ∷ (x 3).re ∷ (x 3).im ∷ []

  pub four_right : (x : ℕ → Complex A) (q : ℕ) → q < 4
      → of_four o (x 0) (x 1) (x 2) (x 3) q ≡ sum_c o R 4 (λ j. times_c o (x j) (E (240 * (j * q))))
  unfolding sum_c
  four_right x zero h =
      solve_c o R (list4 x) (of_four exprs (pair_e 0 1) (pair_e 2 3) (pair_e 4 5) (pair_e 6 7) 0)
      (plus_c exprs (plus_c exprs
      (plus_c exprs (plus_c exprs (zero_c exprs) (times_c exprs (pair_e 0 1) (one_e)))
      (times_c exprs (pair_e 2 3) (one_e)))
      (times_c exprs (pair_e 4 5) (one_e))) (times_c exprs (pair_e 6 7) (one_e))) refl refl
      ∙ dot4_same o (x 0) (x 1) (x 2) (x 3) (sym (e_start o R c K)) (sym (e_start o R c K)) (sym (e_start o R c K))
      (sym (e_start o R c K))
  four_right x (suc zero) h =
      solve_c o R (list4 x) (of_four exprs (pair_e 0 1) (pair_e 2 3) (pair_e 4 5) (pair_e 6 7) 1)
      (plus_c exprs (plus_c exprs
      (plus_c exprs (plus_c exprs (zero_c exprs) (times_c exprs (pair_e 0 1) (one_e)))
      (times_c exprs (pair_e 2 3) (minus_i_e)))
      (times_c exprs (pair_e 4 5) (minus_one_e))) (times_c exprs (pair_e 6 7) (plus_i_e))) refl refl
      ∙ dot4_same o (x 0) (x 1) (x 2) (x 3) (sym (e_start o R c K)) (sym (e_240)) (sym (start_back)) (sym (e_720))
  four_right x (suc (suc zero)) h =
      solve_c o R (list4 x) (of_four exprs (pair_e 0 1) (pair_e 2 3) (pair_e 4 5) (pair_e 6 7) 2)
      (plus_c exprs (plus_c exprs
      (plus_c exprs (plus_c exprs (zero_c exprs) (times_c exprs (pair_e 0 1) (one_e)))
      (times_c exprs (pair_e 2 3) (minus_one_e)))
      (times_c exprs (pair_e 4 5) (one_e))) (times_c exprs (pair_e 6 7) (minus_one_e))) refl refl
      ∙ dot4_same o (x 0) (x 1) (x 2) (x 3) (sym (e_start o R c K)) (sym (start_back))
      (sym (e_turns o R c K 0 1 ∙ e_start o R c K)) (sym (e_turns o R c K 480 1 ∙ start_back))
  four_right x (suc (suc (suc zero))) h =
      solve_c o R (list4 x) (of_four exprs (pair_e 0 1) (pair_e 2 3) (pair_e 4 5) (pair_e 6 7) 3)
      (plus_c exprs (plus_c exprs
      (plus_c exprs (plus_c exprs (zero_c exprs) (times_c exprs (pair_e 0 1) (one_e)))
      (times_c exprs (pair_e 2 3) (plus_i_e)))
      (times_c exprs (pair_e 4 5) (minus_one_e))) (times_c exprs (pair_e 6 7) (minus_i_e))) refl refl
      ∙ dot4_same o (x 0) (x 1) (x 2) (x 3) (sym (e_start o R c K)) (sym (e_720))
      (sym (e_turns o R c K 480 1 ∙ start_back)) (sym (e_turns o R c K 240 2 ∙ e_240))
  four_right x (suc (suc (suc (suc q)))) h = absurd (omega arith)

  abbrev c5 : ℕ → Expr
  c5 m =
      (cond (eqb m 192) (var 10)
      (cond (eqb m 384) (var 11) (cond (eqb m 432) (var 12) (cond (eqb m 624) (var 13) nil))))

  abbrev list5 : (ℕ → Complex A) → List A
  list5 x =
      (x 0).re ∷ (x 0).im ∷ (x 1).re ∷ (x 1).im ∷ (x 2).re ∷ (x 2).im ∷ (x 3).re ∷ (x 3).im ∷ (x 4).re ∷ (x 4).im
      ∷ c 192 ∷ c 384 ∷ c 432 ∷ c 624 ∷ []

  pub five_right : (x : ℕ → Complex A) (q : ℕ) → q < 5
      → of_five o c (x 0) (x 1) (x 2) (x 3) (x 4) q ≡ sum_c o R 5 (λ j. times_c o (x j) (E (192 * (j * q))))
  unfolding sum_c
  five_right x zero h =
      solve_c o R (list5 x) (of_five exprs c5 (pair_e 0 1) (pair_e 2 3) (pair_e 4 5) (pair_e 6 7) (pair_e 8 9) 0)
      (plus_c exprs (plus_c exprs
      (plus_c exprs (plus_c exprs (plus_c exprs (zero_c exprs) (times_c exprs (pair_e 0 1) (one_e)))
      (times_c exprs (pair_e 2 3) (one_e))) (times_c exprs (pair_e 4 5) (one_e))) (times_c exprs (pair_e 6 7) (one_e)))
      (times_c exprs (pair_e 8 9) (one_e))) refl refl
      ∙ dot5_same o (x 0) (x 1) (x 2) (x 3) (x 4) (sym (e_start o R c K)) (sym (e_start o R c K))
      (sym (e_start o R c K)) (sym (e_start o R c K)) (sym (e_start o R c K))
  five_right x (suc zero) h =
      solve_c o R (list5 x) (of_five exprs c5 (pair_e 0 1) (pair_e 2 3) (pair_e 4 5) (pair_e 6 7) (pair_e 8 9) 1)
      (plus_c exprs (plus_c exprs
      (plus_c exprs (plus_c exprs (plus_c exprs (zero_c exprs) (times_c exprs (pair_e 0 1) (one_e)))
      (times_c exprs (pair_e 2 3) (pair_e 10 12))) (times_c exprs (pair_e 4 5) (pair_e 11 13)))
      (times_c exprs (pair_e 6 7) (back_e 11 13))) (times_c exprs (pair_e 8 9) (back_e 10 12))) refl refl
      ∙ dot5_same o (x 0) (x 1) (x 2) (x 3) (x 4) (sym (e_start o R c K)) (refl) (refl)
      (sym (mirrored 384 576 refl 336 refl refl)) (sym (mirrored 192 768 refl 528 refl refl))
  five_right x (suc (suc zero)) h =
      solve_c o R (list5 x) (of_five exprs c5 (pair_e 0 1) (pair_e 2 3) (pair_e 4 5) (pair_e 6 7) (pair_e 8 9) 2)
      (plus_c exprs (plus_c exprs
      (plus_c exprs (plus_c exprs (plus_c exprs (zero_c exprs) (times_c exprs (pair_e 0 1) (one_e)))
      (times_c exprs (pair_e 2 3) (pair_e 11 13))) (times_c exprs (pair_e 4 5) (back_e 10 12)))
      (times_c exprs (pair_e 6 7) (pair_e 10 12))) (times_c exprs (pair_e 8 9) (back_e 11 13))) refl refl
      ∙ dot5_same o (x 0) (x 1) (x 2) (x 3) (x 4) (sym (e_start o R c K)) (refl)
      (sym (mirrored 192 768 refl 528 refl refl)) (sym (e_turns o R c K 192 1))
      (sym (e_turns o R c K 576 1 ∙ mirrored 384 576 refl 336 refl refl))
  five_right x (suc (suc (suc zero))) h =
      solve_c o R (list5 x) (of_five exprs c5 (pair_e 0 1) (pair_e 2 3) (pair_e 4 5) (pair_e 6 7) (pair_e 8 9) 3)
      (plus_c exprs (plus_c exprs
      (plus_c exprs (plus_c exprs (plus_c exprs (zero_c exprs) (times_c exprs (pair_e 0 1) (one_e)))
      (times_c exprs (pair_e 2 3) (back_e 11 13))) (times_c exprs (pair_e 4 5) (pair_e 10 12)))
      (times_c exprs (pair_e 6 7) (back_e 10 12))) (times_c exprs (pair_e 8 9) (pair_e 11 13))) refl refl
      ∙ dot5_same o (x 0) (x 1) (x 2) (x 3) (x 4) (sym (e_start o R c K)) (sym (mirrored 384 576 refl 336 refl refl))
      (sym (e_turns o R c K 192 1)) (sym (e_turns o R c K 768 1 ∙ mirrored 192 768 refl 528 refl refl))
      (sym (e_turns o R c K 384 2))
  five_right x (suc (suc (suc (suc zero)))) h =
      solve_c o R (list5 x) (of_five exprs c5 (pair_e 0 1) (pair_e 2 3) (pair_e 4 5) (pair_e 6 7) (pair_e 8 9) 4)
      (plus_c exprs (plus_c exprs
      (plus_c exprs (plus_c exprs (plus_c exprs (zero_c exprs) (times_c exprs (pair_e 0 1) (one_e)))
      (times_c exprs (pair_e 2 3) (back_e 10 12))) (times_c exprs (pair_e 4 5) (back_e 11 13)))
      (times_c exprs (pair_e 6 7) (pair_e 11 13))) (times_c exprs (pair_e 8 9) (pair_e 10 12))) refl refl
      ∙ dot5_same o (x 0) (x 1) (x 2) (x 3) (x 4) (sym (e_start o R c K)) (sym (mirrored 192 768 refl 528 refl refl))
      (sym (e_turns o R c K 576 1 ∙ mirrored 384 576 refl 336 refl refl)) (sym (e_turns o R c K 384 2))
      (sym (e_turns o R c K 192 3))
  five_right x (suc (suc (suc (suc (suc q))))) h = absurd (omega arith)

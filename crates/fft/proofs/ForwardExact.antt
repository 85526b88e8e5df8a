-- Over a commutative ring the fast forward transform is the plain one. Assumes nothing.
use Rattle.std.specs.Prelude.{◌+◌, ◌-◌, ◌*◌, ◌/◌, ◌%◌, ◌≤◌, ◌<◌, ◌∷◌, ◌≡◌}
use Rattle.rules.proofs.Common.{ℕ, zero, suc, cond, List, [], refl, sym}
use Rattle.rules.proofs.Common.{ap, ◌∙◌, eqb}
use mathlib.Core.Logic.{⊎_elim}
use native.Mathlib.Nat.{mul-add, add-mul, mul_left_comm, mul_assoc, mul_comm}
use native.Mathlib.Omega.{arith}
use borrow.Author.Tests.{eq-eqb, ne_eqb}
use Rattle.rules.specs.Loop.{loop}
use Rattle.rules.proofs.Lists.{tab_same}
use Rattle.rules.specs.Spectrum.{bin_of}
use Rattle.transforms.specs.Transform.{part_of}
use Rattle.fft.specs.Ops.{Ops, Complex, element_at}
use Rattle.fft.specs.Exact.{Ring, Cosines}
use Rattle.fft.specs.Fast.{complex_at, pair, as_complex, transformed, split, bin_out, number_out, forward_over}
use Rattle.fft.specs.Plain.{plain_bin, plain_forward}
use Rattle.fft.proofs.Laying.{below_or}
use Rattle.fft.proofs.Solver.{Expr, var, nil, unit, add, sub, mul, exprs, solve}
use Rattle.fft.proofs.Circle.{zero_c, plus_c, times_c, pair_e, both, env, solve_c, times_one_c, sum_c, sum_same}
use Rattle.fft.proofs.Circle.{sum_plus, sum_dealt, e, e_turns, e_plus, c_within, conj, e_conj}
use Rattle.fft.proofs.Steps.{entry_complexes, whole}

-- the expressions of `split`: the half, and the cosine and minus the sine of k
abbrev split_e : ℕ → ℕ → ℕ → Complex Expr → Complex Expr → Complex Expr
split_e h p q a b = split exprs (λ m. cond (eqb m 160) (var h) (cond (eqb m 0) (var p) (var q))) 0 a b

abbrev back_e : ℕ → ℕ → Complex Expr
back_e i j = record { re = var i; im = sub nil (var j) }

dist : (t s a b : ℕ) → t * (s * a + b) ≡ s * (t * a) + t * b
dist t s a b = rw (mul-add t (s * a) b, mul_left_comm t s a)

module _ {A : Type 0} (o : Ops A) (R : Ring o) (c : ℕ → A) (K : Cosines o R.one c) where
  abbrev E : ℕ → Complex A
  E m = e o R c K m

  infixl 70 ◌×ᶜ◌
  abbrev ◌×ᶜ◌ : Complex A → Complex A → Complex A
  x ×ᶜ y = times_c o x y

  abbrev real : A → Complex A
  real a = record { re = a; im = o.nought }

  module _ (k : ℕ) where
    split_plus : (a a' b b' : Complex A)
        → split o c k (plus_c o a a') (plus_c o b b') ≡ plus_c o (split o c k a b) (split o c k a' b')
    split_plus a a' b b' =
        solve_c o R (a.re ∷ a.im ∷ a'.re ∷ a'.im ∷ b.re ∷ b.im ∷ b'.re ∷ b'.im ∷ c 160 ∷ c k ∷ c (k + 240) ∷ [])
        (split_e 8 9 10 (plus_c exprs (pair_e 0 1) (pair_e 2 3)) (plus_c exprs (pair_e 4 5) (pair_e 6 7)))
        (plus_c exprs (split_e 8 9 10 (pair_e 0 1) (pair_e 4 5)) (split_e 8 9 10 (pair_e 2 3) (pair_e 6 7))) refl refl

    split_zero : split o c k (zero_c o) (zero_c o) ≡ zero_c o
    split_zero =
        solve_c o R (c 160 ∷ c k ∷ c (k + 240) ∷ []) (split_e 0 1 2 (zero_c exprs) (zero_c exprs)) (zero_c exprs) refl
        refl

    split_sum : (n : ℕ) (f g : ℕ → Complex A)
        → split o c k (sum_c o R n f) (sum_c o R n g) ≡ sum_c o R n (λ t. split o c k (f t) (g t))
    unfolding sum_c
    split_sum zero f g = split_zero
    split_sum (suc n) f g =
        split_plus (sum_c o R n f) (f n) (sum_c o R n g) (g n)
        ∙ ap (λ (s : Complex A). plus_c o s (split o c k (f n) (g n))) (split_sum n f g)

    two_halves : (x : Complex A) → x ×ᶜ record { re = o.plus (c 160) (c 160); im = o.nought } ≡ x
    two_halves x = ap (λ (h : A). x ×ᶜ real h) K.sixth ∙ times_one_c o R x

    split_term : (x y : A) (w : Complex A)
        → split o c k (record { re = x; im = y } ×ᶜ w) (record { re = x; im = y } ×ᶜ conj o R c K w)
        ≡ plus_c o (real x ×ᶜ w) (real y ×ᶜ (w ×ᶜ E k))
    split_term x y w =
        solve_c o R (x ∷ y ∷ w.re ∷ w.im ∷ c 160 ∷ c k ∷ c (k + 240) ∷ [])
        (split_e 4 5 6 (times_c exprs (pair_e 0 1) (pair_e 2 3)) (times_c exprs (pair_e 0 1) (back_e 2 3)))
        (times_c exprs (plus_c exprs (times_c exprs (record { re = var 0; im = nil }) (pair_e 2 3))
        (times_c exprs (record { re = var 1; im = nil }) (times_c exprs (pair_e 2 3) (pair_e 5 6))))
        (record { re = add (var 4) (var 4); im = nil })) refl refl
        ∙ two_halves (plus_c o (real x ×ᶜ w) (real y ×ᶜ (w ×ᶜ E k)))

  -- bin 0 is what its definition says
  bin_start : (a : Complex A) → o.plus a.re a.im ≡ (split o c 0 a a).re
  bin_start a =
      sym (ap (λ (x : Complex A). x.re) (two_halves 0 (real (o.plus a.re a.im))))
      ∙ solve o R (env o R (a.re ∷ a.im ∷ c 160 ∷ []))
      (times_c exprs (record { re = add (var 0) (var 1); im = nil }) (record { re = add (var 2) (var 2); im = nil })).re
      (split exprs (λ m. cond (eqb m 160) (var 2) (cond (eqb m 0) unit nil)) 0 (pair_e 0 1) (pair_e 0 1)).re refl
      ∙ rw (K.start, K.quarter)

  sum_two : (f : ℕ → Complex A) → sum_c o R 2 f ≡ plus_c o (f 0) (f 1)
  unfolding sum_c
  sum_two f =
      both o R (rw (R.plus_comm o.nought (f 0).re, R.plus_nought (f 0).re))
      (rw (R.plus_comm o.nought (f 0).im, R.plus_nought (f 0).im))

  by_odd : (zs : List A) (j : ℕ) → 0 < j → 1 ≤ j % 2 → number_out o c zs j ≡ (bin_out o c zs ((j + 1) / 2)).re
  unfolding number_out
  by_odd zs j z y = simp (ne_eqb j 0 (omega arith), eq-eqb (j % 2) 1 (omega arith))

  by_even : (zs : List A) (j : ℕ) → 0 < j → j % 2 < 1 → number_out o c zs j ≡ (bin_out o c zs (j / 2)).im
  unfolding number_out
  by_even zs j z y = simp (ne_eqb j 0 (omega arith), ne_eqb (j % 2) 1 (omega arith))

  module _ (x : List A) where
    abbrev Z : List A
    Z = transformed o c (as_complex o x)

    packed_entry : (t : ℕ) → t < 480 → complex_at o (as_complex o x) t ≡ pair o x t
    unfolding as_complex
    packed_entry t h = entry_complexes o R c K (pair o x) t h

    ahead : (k i : ℕ) → i ≡ k % 480 → complex_at o Z i ≡ sum_c o R 480 (λ t. pair o x t ×ᶜ E (2 * (t * k)))
    ahead k i h =
        whole o R c K (pair o x) (as_complex o x) packed_entry i (omega arith)
        ∙ sum_same o R 480 (λ t. pair o x t ×ᶜ E (2 * (t * i))) (λ t. pair o x t ×ᶜ E (2 * (t * k)))
        (λ t b. let parts : 480 * (k / 480) + i ≡ k = omega arith in
        let angle : 2 * (t * k) ≡ 2 * (t * i) + 960 * (t * (k / 480)) =
        omega (arith, rw parts at (dist t 480 (k / 480) i)) in
        ap (λ (w : Complex A). pair o x t ×ᶜ w)
        (sym (e_turns o R c K (2 * (t * i)) (t * (k / 480))) ∙ ap E (sym angle)))

    behind : (k i : ℕ) → k ≤ 480 → i ≡ (480 - k) % 480
        → complex_at o Z i ≡ sum_c o R 480 (λ t. pair o x t ×ᶜ conj o R c K (E (2 * (t * k))))
    behind k i g h =
        whole o R c K (pair o x) (as_complex o x) packed_entry i (omega arith)
        ∙ sum_same o R 480 (λ t. pair o x t ×ᶜ E (2 * (t * i))) (λ t. pair o x t ×ᶜ conj o R c K (E (2 * (t * k))))
        (λ t b. let v = (i + k) / 480 in
        let parts : 480 * ((i + k) / 480) + 0 ≡ i + k = omega arith in
        let angle : 2 * (t * i) + 2 * (t * k) ≡ 960 * (t * ((i + k) / 480)) =
        omega (arith, mul-add t i k, rw parts at (dist t 480 ((i + k) / 480) 0)) in
        ap (λ (w : Complex A). pair o x t ×ᶜ w)
        (e_conj o R c K (2 * (t * i)) (2 * (t * k)) (t * ((i + k) / 480)) angle))

    abbrev term : ℕ → ℕ → Complex A
    term k n = real (element_at o x n) ×ᶜ E (n * k)

    bin_right : (k : ℕ) → k ≤ 480 → bin_out o c Z k ≡ sum_c o R 960 (term k)
    unfolding bin_out
    bin_right k h =
        let f : ℕ → Complex A = λ t. pair o x t ×ᶜ E (2 * (t * k)) in
        let g : ℕ → Complex A = λ t. pair o x t ×ᶜ conj o R c K (E (2 * (t * k))) in
        ap (λ (a : Complex A). split o c k a (complex_at o Z ((480 - k) % 480))) (ahead k (k % 480) refl)
        ∙ ap (λ (b : Complex A). split o c k (sum_c o R 480 f) b) (behind k ((480 - k) % 480) h refl)
        ∙ split_sum k 480 f g
        ∙ sum_same o R 480 (λ t. split o c k (f t) (g t)) (λ t. plus_c o (term k (2 * t + 0)) (term k (2 * t + 1)))
        (λ t b. split_term k (element_at o x (2 * t)) (element_at o x (2 * t + 1)) (E (2 * (t * k)))
        ∙ ap (λ (s : Complex A). s) (both_terms t))
        ∙ sum_plus o R 480 (λ t. term k (2 * t + 0)) (λ t. term k (2 * t + 1))
        ∙ sym (sum_two (λ j. sum_c o R 480 (λ t. term k (2 * t + j))))
        ∙ sym (sum_dealt o R 2 480 (term k))
      where
        both_terms : (t : ℕ) → plus_c o (real (element_at o x (2 * t)) ×ᶜ E (2 * (t * k)))
            (real (element_at o x (2 * t + 1)) ×ᶜ (E (2 * (t * k)) ×ᶜ E k))
            ≡ plus_c o (term k (2 * t + 0)) (term k (2 * t + 1))
        both_terms t =
            let n₀ : 2 * t ≡ 2 * t + 0 = omega arith in
            let a₀ : 2 * (t * k) ≡ (2 * t + 0) * k = omega (arith, add-mul (2 * t) 0 k, mul_assoc 2 t k) in
            let a₁ : 2 * (t * k) + k ≡ (2 * t + 1) * k = omega (arith, add-mul (2 * t) 1 k, mul_assoc 2 t k) in
            ap (λ (w : Complex A). plus_c o (real (element_at o x (2 * t)) ×ᶜ E (2 * (t * k)))
            (real (element_at o x (2 * t + 1)) ×ᶜ w)) (sym (e_plus o R c K (2 * (t * k)) k) ∙ ap E a₁)
            ∙ ap (λ (m : ℕ). plus_c o (real (element_at o x (2 * t)) ×ᶜ E m) (term k (2 * t + 1))) a₀
            ∙ ap (λ (n : ℕ). plus_c o (real (element_at o x n) ×ᶜ E ((2 * t + 0) * k)) (term k (2 * t + 1))) n₀

    -- ---- the parts of a bin are the plain sums
    less_nought : (a b d : A) → o.minus (o.times a b) (o.times o.nought d) ≡ o.times a b
    less_nought a b d =
        solve o R (env o R (a ∷ b ∷ d ∷ [])) (sub (mul (var 0) (var 1)) (mul nil (var 2))) (mul (var 0) (var 1)) refl

    plus_nought' : (a b d : A) → o.plus (o.times a b) (o.times o.nought d) ≡ o.times a b
    plus_nought' a b d =
        solve o R (env o R (a ∷ b ∷ d ∷ [])) (add (mul (var 0) (var 1)) (mul nil (var 2))) (mul (var 0) (var 1)) refl

    placed : (k n r : ℕ) → c (n * k + r) ≡ c ((k * n + r) % 960)
    placed k n r = ap (λ (m : ℕ). c (m + r)) (mul_comm n k) ∙ sym (c_within o R c K (k * n + r))

    placed_0 : (k n : ℕ) → c (n * k) ≡ c ((k * n + 0) % 960)
    placed_0 k n = let same : n * k ≡ n * k + 0 = omega arith in ap c same ∙ placed k n 0

    re_right : (k n : ℕ) → (sum_c o R n (term k)).re
        ≡ loop n (λ i s. o.plus s (o.times (element_at o x i) (c ((k * i + 0) % 960)))) o.nought
    unfolding sum_c loop
    re_right k zero = refl
    re_right k (suc n) =
        ap (λ (s : A). o.plus s (term k n).re) (re_right k n)
        ∙ ap (λ (t : A).
        o.plus (loop n (λ i s. o.plus s (o.times (element_at o x i) (c ((k * i + 0) % 960)))) o.nought) t)
        (less_nought (element_at o x n) (c (n * k)) (c (n * k + 240))
        ∙ ap (λ (v : A). o.times (element_at o x n) v) (placed_0 k n))

    im_right : (k n : ℕ) → (sum_c o R n (term k)).im
        ≡ loop n (λ i s. o.plus s (o.times (element_at o x i) (c ((k * i + 240) % 960)))) o.nought
    unfolding sum_c loop
    im_right k zero = refl
    im_right k (suc n) =
        ap (λ (s : A). o.plus s (term k n).im) (im_right k n)
        ∙ ap (λ (t : A).
        o.plus (loop n (λ i s. o.plus s (o.times (element_at o x i) (c ((k * i + 240) % 960)))) o.nought) t)
        (plus_nought' (element_at o x n) (c (n * k + 240)) (c (n * k))
        ∙ ap (λ (v : A). o.times (element_at o x n) v) (placed k n 240))

    bin_re : (k : ℕ) → k ≤ 480 → (bin_out o c Z k).re ≡ plain_bin o c x k 0
    bin_re k h = ap (λ (b : Complex A). b.re) (bin_right k h) ∙ re_right k 960

    bin_im : (k : ℕ) → k ≤ 480 → (bin_out o c Z k).im ≡ plain_bin o c x k 240
    bin_im k h = ap (λ (b : Complex A). b.im) (bin_right k h) ∙ im_right k 960

    first_right : number_out o c Z 0 ≡ plain_bin o c x 0 0
    unfolding number_out bin_out
    first_right = bin_start (complex_at o Z 0) ∙ bin_re 0 (omega arith)

    number_right : (j : ℕ) → j < 961 → number_out o c Z j ≡ plain_bin o c x (bin_of j) (part_of j)
    number_right j h =
        ⊎_elim
        (λ z. ⊎_elim (λ y. even_right z y) (λ y. odd_right z y) (below_or (j % 2) 1))
        (λ z. let none : j ≡ 0 = omega arith in rw none first_right)
        (below_or 0 j)
      where
        odd_right : 0 < j → 1 ≤ j % 2 → number_out o c Z j ≡ plain_bin o c x (bin_of j) (part_of j)
        odd_right z y =
            by_odd Z j z y ∙ bin_re ((j + 1) / 2) (omega arith)
            ∙ simp (ne_eqb j 0 (omega arith), eq-eqb (j % 2) 1 (omega arith))

        even_right : 0 < j → j % 2 < 1 → number_out o c Z j ≡ plain_bin o c x (bin_of j) (part_of j)
        even_right z y =
            let half : j / 2 ≡ (j + 1) / 2 = omega arith in
            by_even Z j z y ∙ bin_im (j / 2) (omega arith)
            ∙ simp (ne_eqb j 0 (omega arith), ne_eqb (j % 2) 1 (omega arith), half)

    pub forward_exact : forward_over o c x ≡ plain_forward o c x
    unfolding forward_over plain_forward
    forward_exact = tab_same 961 (number_out o c Z) (λ j. plain_bin o c x (bin_of j) (part_of j)) number_right

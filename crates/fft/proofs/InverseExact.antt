-- Over a commutative ring the fast inverse transform is the plain one. Assumes nothing.
use Rattle.std.specs.Prelude.{◌+◌, ◌-◌, ◌*◌, ◌/◌, ◌%◌, ◌≤◌, ◌<◌, ◌∷◌, ◌≡◌}
use Rattle.rules.proofs.Common.{ℕ, zero, suc, cond, List, [], refl, sym}
use Rattle.rules.proofs.Common.{ap, ◌∙◌, eqb}
use mathlib.Core.Logic.{⊎_elim}
use native.Mathlib.Nat.{add-mul, mul_assoc, mul_comm}
use native.Mathlib.Omega.{arith}
use borrow.Author.Tests.{eq-eqb, ne_eqb}
use Rattle.rules.specs.Loop.{loop, range}
use Rattle.rules.proofs.Lists.{tab_same}
use Rattle.fft.specs.Ops.{Ops, Complex, element_at}
use Rattle.fft.specs.Exact.{Ring, Cosines}
use Rattle.fft.specs.Fast.{complex_at, transformed, bin_in, merged, merged_at, merged_of, sample_out, inverse_over}
use Rattle.fft.specs.Plain.{plain_step, plain_sample, plain_inverse}
use Rattle.fft.proofs.Laying.{below_or}
use Rattle.fft.proofs.Solver.{Expr, var, nil, unit, add, sub, mul, exprs, solve}
use Rattle.fft.proofs.Circle.{zero_c, plus_c, times_c, pair_e, one_e, one_c, both, env, solve_c, plus_times_c}
use Rattle.fft.proofs.Circle.{plus_zero_c, sum_c, sum_same, sum_plus, sum_on, e, e_start, e_plus, c_within}
use Rattle.fft.proofs.Circle.{c_turns, c_mirror, conj, e_conj}
use Rattle.fft.proofs.Steps.{entry_complexes, whole}

-- `merged` by the cosine and minus the sine of k
abbrev by : {A : Type 0} → Ops A → A → A → Complex A → Complex A → Complex A
by o p q a b = merged o (λ m. cond (eqb m 0) p q) 0 a b

abbrev double_e : Expr → Expr
double_e a = mul (add unit unit) a

module _ {A : Type 0} (o : Ops A) (R : Ring o) where
  -- a sum from its other end
  plus_comm_c : (x y : Complex A) → plus_c o x y ≡ plus_c o y x
  plus_comm_c x y = both o R (R.plus_comm x.re y.re) (R.plus_comm x.im y.im)

  sum_one : (f : ℕ → Complex A) → sum_c o R 1 f ≡ f 0
  unfolding sum_c
  sum_one f = plus_comm_c (zero_c o) (f 0) ∙ plus_zero_c o R (f 0)

  sum_back : (n : ℕ) (f : ℕ → Complex A) → sum_c o R n f ≡ sum_c o R n (λ i. f (n - suc i))
  unfolding sum_c
  sum_back zero f = refl
  sum_back (suc n) f =
      let one_on : 1 + n ≡ suc n = omega arith in
      let g : ℕ → Complex A = λ i. f (suc n - suc i) in
      plus_comm_c (sum_c o R n f) (f n)
      ∙ ap (λ (s : Complex A). plus_c o (f n) s)
      (sum_back n f ∙ sum_same o R n (λ i. f (n - suc i)) (λ i. g (1 + i))
      (λ i h. let e : n - suc i ≡ suc n - suc (1 + i) = omega arith in ap f e))
      ∙ ap (λ (s : Complex A). plus_c o s (sum_c o R n (λ i. g (1 + i))))
      (let e : n ≡ suc n - suc 0 = omega arith in ap f e ∙ sym (sum_one g))
      ∙ sym (sum_on o R 1 n g) ∙ ap (λ (m : ℕ). sum_c o R m g) one_on

  merged_apart : (p q : A) (a b : Complex A) → by o p q a b ≡ plus_c o (by o p q a (zero_c o)) (by o p q (zero_c o) b)
  merged_apart p q a b =
      solve_c o R (a.re ∷ a.im ∷ b.re ∷ b.im ∷ p ∷ q ∷ []) (by exprs (var 4) (var 5) (pair_e 0 1) (pair_e 2 3))
      (plus_c exprs (by exprs (var 4) (var 5) (pair_e 0 1) (zero_c exprs))
      (by exprs (var 4) (var 5) (zero_c exprs) (pair_e 2 3))) refl refl

  -- what bin k gives as itself and as the other of its pair: x is the bin, p and q are of k, u and v of the angle
  merged_pair : (x : Complex A) (p q u v : A)
      → plus_c o (times_c o (by o p q x (zero_c o)) (record { re = u; im = v }))
      (times_c o (by o (o.minus o.nought p) q (zero_c o) x) (record { re = u; im = o.minus o.nought v }))
      ≡ record {
        re =
            o.plus (o.times (o.times (o.plus R.one R.one) x.re) (o.minus (o.times u p) (o.times v q)))
            (o.times (o.times (o.plus R.one R.one) x.im) (o.plus (o.times u q) (o.times v p)));
        im =
            o.plus (o.times (o.times (o.plus R.one R.one) x.re) u)
            (o.times (o.times (o.plus R.one R.one) x.im) v);
      }
  merged_pair x p q u v =
      solve_c o R (x.re ∷ x.im ∷ p ∷ q ∷ u ∷ v ∷ [])
      (plus_c exprs (times_c exprs (by exprs (var 2) (var 3) (pair_e 0 1) (zero_c exprs)) (pair_e 4 5))
      (times_c exprs (by exprs (sub nil (var 2)) (var 3) (zero_c exprs) (pair_e 0 1))
      (record { re = var 4; im = sub nil (var 5) })))
      (record {
        re =
            add (mul (double_e (var 0)) (sub (mul (var 4) (var 2)) (mul (var 5) (var 3))))
            (mul (double_e (var 1)) (add (mul (var 4) (var 3)) (mul (var 5) (var 2))));
        im = add (mul (double_e (var 0)) (var 4)) (mul (double_e (var 1)) (var 5));
      }) refl refl

  -- bins 0 and 480
  merged_ends : (a b : A) → times_c o
      (by o R.one o.nought (record { re = a; im = o.nought }) (record { re = b; im = o.nought })) (one_c o R)
      ≡ record { re = o.minus a b; im = o.plus a b }
  merged_ends a b =
      solve_c o R (a ∷ b ∷ []) (times_c exprs
      (by exprs unit nil (record { re = var 0; im = nil }) (record { re = var 1; im = nil })) one_e)
      (record { re = sub (var 0) (var 1); im = add (var 0) (var 1) }) refl refl

  gathered : (s t a b : A) → o.plus (o.plus (o.plus s t) a) b ≡ o.plus s (o.plus t (o.plus a b))
  gathered s t a b =
      solve o R (env o R (s ∷ t ∷ a ∷ b ∷ [])) (add (add (add (var 0) (var 1)) (var 2)) (var 3))
      (add (var 0) (add (var 1) (add (var 2) (var 3)))) refl

  even_ends : (a b s : A) → o.plus (o.plus a b) s ≡ o.plus (o.plus (o.plus o.nought a) s) (o.times b R.one)
  even_ends a b s =
      solve o R (env o R (a ∷ b ∷ s ∷ [])) (add (add (var 0) (var 1)) (var 2))
      (add (add (add nil (var 0)) (var 2)) (mul (var 1) unit)) refl

  odd_ends : (a b s : A) → o.plus (o.minus a b) s
      ≡ o.plus (o.plus (o.plus o.nought a) s) (o.times b (o.minus o.nought R.one))
  odd_ends a b s =
      solve o R (env o R (a ∷ b ∷ s ∷ [])) (add (sub (var 0) (var 1)) (var 2))
      (add (add (add nil (var 0)) (var 2)) (mul (var 1) (sub nil unit))) refl

module _ {A : Type 0} (o : Ops A) (R : Ring o) (c : ℕ → A) (K : Cosines o R.one c) (x : List A) where
  abbrev E : ℕ → Complex A
  E m = e o R c K m

  infixl 70 ◌×ᶜ◌
  abbrev ◌×ᶜ◌ : Complex A → Complex A → Complex A
  a ×ᶜ b = times_c o a b

  abbrev X : ℕ → Complex A
  X k = bin_in o x k

  abbrev T : List A
  T = transformed o c (merged_of o c x)

  bin_0 : X 0 ≡ record { re = element_at o x 0; im = o.nought }
  unfolding bin_in
  bin_0 = refl

  bin_480 : X 480 ≡ record { re = element_at o x 959; im = o.nought }
  unfolding bin_in
  bin_480 = refl

  bin_mid : (k : ℕ) → 0 < k → k < 480 → X k ≡ record { re = element_at o x (2 * k - 1); im = element_at o x (2 * k) }
  unfolding bin_in
  bin_mid k h g = simp (ne_eqb k 0 (omega arith), ne_eqb k 480 (omega arith))

  merged_entry : (k : ℕ) → k < 480 → complex_at o (merged_of o c x) k ≡ merged_at o c x k
  unfolding merged_of
  merged_entry k h = entry_complexes o R c K (merged_at o c x) k h

  -- a bin's two terms of sample N
  abbrev term : ℕ → ℕ → A
  term N k =
      o.plus (o.times (o.times o.two (element_at o x (2 * k - 1))) (c ((N * k + 0) % 960)))
      (o.times (o.times o.two (element_at o x (2 * k))) (c ((N * k + 240) % 960)))

  abbrev terms : ℕ → ℕ → Complex A
  terms n k = record { re = term (2 * n + 1) k; im = term (2 * n) k }

  module _ (n : ℕ) where
    abbrev mine : ℕ → Complex A
    mine k = by o (c k) (c (k + 240)) (X k) (zero_c o) ×ᶜ E (2 * (k * n))

    abbrev other : ℕ → Complex A
    other k = by o (c k) (c (k + 240)) (zero_c o) (X (480 - k)) ×ᶜ E (2 * (k * n))

    apart : (k : ℕ) → merged_at o c x k ×ᶜ E (2 * (k * n)) ≡ plus_c o (mine k) (other k)
    apart k =
        ap (λ (v : Complex A). v ×ᶜ E (2 * (k * n))) (merged_apart o R (c k) (c (k + 240)) (X k) (X (480 - k)))
        ∙ plus_times_c o R (by o (c k) (c (k + 240)) (X k) (zero_c o))
        (by o (c k) (c (k + 240)) (zero_c o) (X (480 - k)))
        (E (2 * (k * n)))

    -- bin k as the other of bin i
    turned_about : (k i : ℕ) → k + i ≡ 480
        → other i ≡ by o (o.minus o.nought (c k)) (c (k + 240)) (zero_c o) (X k) ×ᶜ conj o R c K (E (2 * (k * n)))
    turned_about k i h =
        let back : 480 - i ≡ k = omega arith in
        let p : c i ≡ o.minus o.nought (c k) = c_mirror o R c K i (k + 480) 1 (omega arith) ∙ K.opposite k in
        let q : c (i + 240) ≡ c (k + 240) = c_mirror o R c K (i + 240) (k + 240) 1 (omega arith) in
        let angle : 2 * (i * n) + 2 * (k * n) ≡ 960 * n = omega (arith, rw h at (sym (add-mul k i n))) in
        ap (λ (j : ℕ). by o (c i) (c (i + 240)) (zero_c o) (X j) ×ᶜ E (2 * (i * n))) back
        ∙ ap (λ (a : A). by o a (c (i + 240)) (zero_c o) (X k) ×ᶜ E (2 * (i * n))) p
        ∙ ap (λ (b : A). by o (o.minus o.nought (c k)) b (zero_c o) (X k) ×ᶜ E (2 * (i * n))) q
        ∙ ap (λ (w : Complex A). by o (o.minus o.nought (c k)) (c (k + 240)) (zero_c o) (X k) ×ᶜ w)
        (e_conj o R c K (2 * (i * n)) (2 * (k * n)) n angle)

    assembled : {t t' r r' i i' a a' b b' d d' f f' : A} → t ≡ t' → r ≡ r' → i ≡ i' → a ≡ a' → b ≡ b' → d ≡ d' → f ≡ f'
        → ◌≡◌ {A =
        Complex A}
        (record {
          re = o.plus (o.times (o.times t r) a) (o.times (o.times t i) b);
          im = o.plus (o.times (o.times t r) d) (o.times (o.times t i) f);
        })
        (record {
          re = o.plus (o.times (o.times t' r') a') (o.times (o.times t' i') b');
          im = o.plus (o.times (o.times t' r') d') (o.times (o.times t' i') f');
        })
    assembled pt pr pi pa pb pd pf = rw (pt, pr, pi, pa, pb, pd, pf)

    paired : (k i : ℕ) → k + i ≡ 480 → 0 < k → k < 480 → plus_c o (mine k) (other i) ≡ terms n k
    paired k i h g b =
        let m = 2 * (k * n) in
        let even : 2 * n * k ≡ 2 * (k * n) = omega (arith, mul_assoc 2 n k, mul_comm n k) in
        let odd : (2 * n + 1) * k ≡ 2 * (k * n) + k =
        omega (arith, add-mul (2 * n) 1 k, mul_assoc 2 n k, mul_comm n k) in
        let c₀ : c (2 * (k * n)) ≡ c ((2 * n * k + 0) % 960) =
        (let s : 2 * (k * n) ≡ 2 * n * k + 0 = omega arith in ap c s) ∙ sym (c_within o R c K (2 * n * k + 0)) in
        let c₁ : c (2 * (k * n) + 240) ≡ c ((2 * n * k + 240) % 960) =
        (let s : 2 * (k * n) + 240 ≡ 2 * n * k + 240 = omega arith in ap c s)
        ∙ sym (c_within o R c K (2 * n * k + 240)) in
        let d₀ : (E (2 * (k * n)) ×ᶜ E k).re ≡ c (((2 * n + 1) * k + 0) % 960) =
        sym (ap (λ (w : Complex A). w.re) (e_plus o R c K (2 * (k * n)) k))
        ∙ (let s : 2 * (k * n) + k ≡ (2 * n + 1) * k + 0 = omega arith in ap c s)
        ∙ sym (c_within o R c K ((2 * n + 1) * k + 0)) in
        let d₁ : (E (2 * (k * n)) ×ᶜ E k).im ≡ c (((2 * n + 1) * k + 240) % 960) =
        sym (ap (λ (w : Complex A). w.im) (e_plus o R c K (2 * (k * n)) k))
        ∙ (let s : 2 * (k * n) + k + 240 ≡ (2 * n + 1) * k + 240 = omega arith in ap c s)
        ∙ sym (c_within o R c K ((2 * n + 1) * k + 240)) in
        ap (λ (v : Complex A). plus_c o (mine k) v) (turned_about k i h)
        ∙ merged_pair o R (X k) (c k) (c (k + 240)) (c (2 * (k * n))) (c (2 * (k * n) + 240))
        ∙ assembled (sym R.two_ones) (ap (λ (w : Complex A). w.re) (bin_mid k g b))
        (ap (λ (w : Complex A). w.im) (bin_mid k g b)) d₀ d₁ c₀ c₁

    ends : merged_at o c x 0 ×ᶜ E (2 * (0 * n))
        ≡ record {
          re = o.minus (element_at o x 0) (element_at o x 959);
          im = o.plus (element_at o x 0) (element_at o x 959);
        }
    ends =
        let flat : 2 * (0 * n) ≡ 0 = omega (arith, mul_comm 0 n) in
        ap (λ (w : Complex A). merged_at o c x 0 ×ᶜ w) (ap E flat ∙ e_start o R c K)
        ∙ ap (λ (a : A). by o a (c 240) (X 0) (X 480) ×ᶜ one_c o R) K.start
        ∙ ap (λ (a : A). by o R.one a (X 0) (X 480) ×ᶜ one_c o R) K.quarter
        ∙ ap (λ (a : Complex A). by o R.one o.nought a (X 480) ×ᶜ one_c o R) bin_0
        ∙ ap (λ (b : Complex A).
        by o R.one o.nought (record { re = element_at o x 0; im = o.nought }) b ×ᶜ one_c o R) bin_480
        ∙ merged_ends o R (element_at o x 0) (element_at o x 959)

    summed : n < 480 → complex_at o T n
        ≡ plus_c o
        (record {
          re = o.minus (element_at o x 0) (element_at o x 959);
          im = o.plus (element_at o x 0) (element_at o x 959);
        }) (sum_c o R 479 (λ i. terms n (1 + i)))
    summed h =
        let f : ℕ → Complex A = λ k. merged_at o c x k ×ᶜ E (2 * (k * n)) in
        whole o R c K (merged_at o c x) (merged_of o c x) merged_entry n h
        ∙ sum_on o R 1 479 f
        ∙ ap (λ (v : Complex A). plus_c o v (sum_c o R 479 (λ i. f (1 + i)))) (sum_one o R f ∙ ends)
        ∙ ap (λ (v : Complex A). plus_c o
        (record {
          re = o.minus (element_at o x 0) (element_at o x 959);
          im = o.plus (element_at o x 0) (element_at o x 959);
        }) v)
        (sum_same o R 479 (λ i. f (1 + i)) (λ i. plus_c o (mine (1 + i)) (other (1 + i))) (λ i b. apart (1 + i))
        ∙ sum_plus o R 479 (λ i. mine (1 + i)) (λ i. other (1 + i))
        ∙ ap (λ (v : Complex A). plus_c o (sum_c o R 479 (λ i. mine (1 + i))) v) (sum_back o R 479 (λ i. other (1 + i)))
        ∙ sym (sum_plus o R 479 (λ i. mine (1 + i)) (λ i. other (1 + (479 - suc i))))
        ∙ sum_same o R 479 (λ i. plus_c o (mine (1 + i)) (other (1 + (479 - suc i)))) (λ i. terms n (1 + i))
        (λ i b. paired (1 + i) (1 + (479 - suc i)) (omega arith) (omega arith) (omega arith)))

    -- ---- the plain loops
    even_loop : (j : ℕ) (s : A)
        → loop j (λ i. plain_step o c x (2 * n) (1 + i)) s ≡ o.plus s (sum_c o R j (λ i. terms n (1 + i))).im
    unfolding loop sum_c
    even_loop zero s = sym (R.plus_nought s)
    even_loop (suc j) s =
        ap (λ (l : A). plain_step o c x (2 * n) (1 + j) l) (even_loop j s)
        ∙ gathered o R s (sum_c o R j (λ i. terms n (1 + i))).im _ _

    odd_loop : (j : ℕ) (s : A)
        → loop j (λ i. plain_step o c x (2 * n + 1) (1 + i)) s ≡ o.plus s (sum_c o R j (λ i. terms n (1 + i))).re
    unfolding loop sum_c
    odd_loop zero s = sym (R.plus_nought s)
    odd_loop (suc j) s =
        ap (λ (l : A). plain_step o c x (2 * n + 1) (1 + j) l) (odd_loop j s)
        ∙ gathered o R s (sum_c o R j (λ i. terms n (1 + i))).re _ _

    even_right : n < 480 → (complex_at o T n).im ≡ plain_sample o c x (2 * n)
    unfolding range
    even_right h =
        let whole_turns : 2 * n * 480 + 0 ≡ 0 + 960 * n = omega (arith, mul_assoc 2 n 480, mul_comm n 480) in
        let last : c ((2 * n * 480 + 0) % 960) ≡ R.one =
        c_within o R c K (2 * n * 480 + 0) ∙ ap c whole_turns ∙ c_turns o R c K 0 n ∙ K.start in
        ap (λ (w : Complex A). w.im) (summed h)
        ∙ even_ends o R (element_at o x 0) (element_at o x 959) (sum_c o R 479 (λ i. terms n (1 + i))).im
        ∙ ap (λ (l : A). o.plus l (o.times (element_at o x 959) R.one))
        (sym (even_loop 479 (o.plus o.nought (element_at o x 0))))
        ∙ ap (λ (v : A). o.plus
        (loop 479 (λ i. plain_step o c x (2 * n) (1 + i)) (o.plus o.nought (element_at o x 0)))
        (o.times (element_at o x 959) v)) (sym last)

    odd_right : n < 480 → (complex_at o T n).re ≡ plain_sample o c x (2 * n + 1)
    unfolding range
    odd_right h =
        let whole_turns : (2 * n + 1) * 480 + 0 ≡ 480 + 960 * n =
        omega (arith, add-mul (2 * n) 1 480, mul_assoc 2 n 480, mul_comm n 480) in
        let last : c (((2 * n + 1) * 480 + 0) % 960) ≡ o.minus o.nought R.one =
        c_within o R c K ((2 * n + 1) * 480 + 0) ∙ ap c whole_turns ∙ c_turns o R c K 480 n ∙ K.opposite 0
        ∙ ap (λ (v : A). o.minus o.nought v) K.start in
        ap (λ (w : Complex A). w.re) (summed h)
        ∙ odd_ends o R (element_at o x 0) (element_at o x 959) (sum_c o R 479 (λ i. terms n (1 + i))).re
        ∙ ap (λ (l : A). o.plus l (o.times (element_at o x 959) (o.minus o.nought R.one)))
        (sym (odd_loop 479 (o.plus o.nought (element_at o x 0))))
        ∙ ap (λ (v : A). o.plus
        (loop 479 (λ i. plain_step o c x (2 * n + 1) (1 + i)) (o.plus o.nought (element_at o x 0)))
        (o.times (element_at o x 959) v)) (sym last)

  sample_even : (m : ℕ) → m % 2 < 1 → sample_out o T m ≡ (complex_at o T (m / 2)).im
  unfolding sample_out
  sample_even m h = simp (eq-eqb (m % 2) 0 (omega arith))

  sample_odd : (m : ℕ) → 1 ≤ m % 2 → sample_out o T m ≡ (complex_at o T (m / 2)).re
  unfolding sample_out
  sample_odd m h = simp (ne_eqb (m % 2) 0 (omega arith))

  sample_right : (m : ℕ) → m < 960 → sample_out o T m ≡ plain_sample o c x m
  sample_right m h =
      ⊎_elim
      (λ z.
      let e : 2 * (m / 2) ≡ m = omega arith in
      sample_even m z ∙ even_right (m / 2) (omega arith) ∙ ap (plain_sample o c x) e)
      (λ z.
      let e : 2 * (m / 2) + 1 ≡ m = omega arith in
      sample_odd m z ∙ odd_right (m / 2) (omega arith) ∙ ap (plain_sample o c x) e)
      (below_or (m % 2) 1)

  pub inverse_exact : inverse_over o c x ≡ plain_inverse o c x
  unfolding inverse_over plain_inverse
  inverse_exact = tab_same 960 (sample_out o T) (plain_sample o c x) sample_right

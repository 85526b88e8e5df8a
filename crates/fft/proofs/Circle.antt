-- Complex numbers over a commutative ring, the points of the circle by its cosines, and finite sums. Assumes nothing.
use Rattle.std.specs.Prelude.{◌+◌, ◌*◌, ◌/◌, ◌%◌, ◌<◌, ◌∷◌, ◌++◌, ◌≡◌}
use Rattle.rules.proofs.Common.{ℕ, zero, suc, List, [], refl, sym, ap, ◌∙◌}
use Rattle.rules.proofs.Common.{get_or}
use native.Mathlib.Nat.{add-zero, add-suc, mul-zero, mul-suc}
use native.Mathlib.Omega.{arith}
use Rattle.fft.specs.Ops.{Ops, Complex}
use Rattle.fft.specs.Exact.{Ring, Cosines}
use mathlib.Core.Logic.{⊎_elim}
use Rattle.fft.proofs.Laying.{below_or}
use Rattle.fft.proofs.Solver.{Expr, var, nil, unit, add, sub, mul, exprs, gains, losses, ordered, eval, solve}

-- ---- over any operations
module _ {A : Type 0} (o : Ops A) where
  abbrev pub zero_c : Complex A
  zero_c = record { re = o.nought; im = o.nought }

  abbrev pub plus_c : Complex A → Complex A → Complex A
  plus_c x y = record { re = o.plus x.re y.re; im = o.plus x.im y.im }

  abbrev pub times_c : Complex A → Complex A → Complex A
  times_c x y = record {
    re = o.minus (o.times x.re y.re) (o.times x.im y.im);
    im = o.plus (o.times x.re y.im) (o.times x.im y.re);
  }

abbrev pub pair_e : ℕ → ℕ → Complex Expr
pair_e i j = record { re = var i; im = var j }

abbrev pub one_e : Complex Expr
one_e = record { re = unit; im = nil }

module _ {A : Type 0} (o : Ops A) (R : Ring o) where
  abbrev pub one_c : Complex A
  one_c = record { re = R.one; im = o.nought }

  abbrev pub env : List A → ℕ → A
  env l i = get_or l i o.nought

  abbrev pub eval_c : List A → Complex Expr → Complex A
  eval_c l x = record { re = eval o R (env l) x.re; im = eval o R (env l) x.im }

  pub both : {a b c d : A} → a ≡ b → c ≡ d → ◌≡◌ {A = Complex A} (record { re = a; im = c }) (record { re = b; im = d })
  both p q = cc

  pub solve_c : (l : List A) (a b : Complex Expr)
      → ordered (gains a.re ++ losses b.re) ≡ ordered (gains b.re ++ losses a.re)
      → ordered (gains a.im ++ losses b.im) ≡ ordered (gains b.im ++ losses a.im) → eval_c l a ≡ eval_c l b
  solve_c l a b p q = both (solve o R (env l) a.re b.re p) (solve o R (env l) a.im b.im q)

  -- ---- laws of complex numbers
  module _ (x y z : Complex A) where
    abbrev six : List A
    six = x.re ∷ x.im ∷ y.re ∷ y.im ∷ z.re ∷ z.im ∷ []

    pub plus_assoc_c : plus_c o (plus_c o x y) z ≡ plus_c o x (plus_c o y z)
    plus_assoc_c = both (R.plus_assoc x.re y.re z.re) (R.plus_assoc x.im y.im z.im)

    pub times_assoc_c : times_c o (times_c o x y) z ≡ times_c o x (times_c o y z)
    times_assoc_c =
        solve_c six (times_c exprs (times_c exprs (pair_e 0 1) (pair_e 2 3)) (pair_e 4 5))
        (times_c exprs (pair_e 0 1) (times_c exprs (pair_e 2 3) (pair_e 4 5))) refl refl

    pub plus_times_c : times_c o (plus_c o x y) z ≡ plus_c o (times_c o x z) (times_c o y z)
    plus_times_c =
        solve_c six (times_c exprs (plus_c exprs (pair_e 0 1) (pair_e 2 3)) (pair_e 4 5))
        (plus_c exprs (times_c exprs (pair_e 0 1) (pair_e 4 5)) (times_c exprs (pair_e 2 3) (pair_e 4 5))) refl refl

  pub plus_swap_c : (x y z w : Complex A) → plus_c o (plus_c o x y) (plus_c o z w)
      ≡ plus_c o (plus_c o x z) (plus_c o y w)
  plus_swap_c x y z w = solve_c (x.re ∷ x.im ∷ y.re ∷ y.im ∷ z.re ∷ z.im ∷ w.re ∷ w.im ∷ [])
      (plus_c exprs (plus_c exprs (pair_e 0 1) (pair_e 2 3)) (plus_c exprs (pair_e 4 5) (pair_e 6 7)))
      (plus_c exprs (plus_c exprs (pair_e 0 1) (pair_e 4 5)) (plus_c exprs (pair_e 2 3) (pair_e 6 7))) refl refl

  pub plus_zero_c : (x : Complex A) → plus_c o x (zero_c o) ≡ x
  plus_zero_c x = both (R.plus_nought x.re) (R.plus_nought x.im)

  pub times_one_c : (x : Complex A) → times_c o x one_c ≡ x
  times_one_c x = solve_c (x.re ∷ x.im ∷ []) (times_c exprs (pair_e 0 1) one_e) (pair_e 0 1) refl refl

  pub zero_times_c : (x : Complex A) → times_c o (zero_c o) x ≡ zero_c o
  zero_times_c x = solve_c (x.re ∷ x.im ∷ []) (times_c exprs (zero_c exprs) (pair_e 0 1)) (zero_c exprs) refl refl

  -- ---- sums
  unfoldable pub sum_c : ℕ → (ℕ → Complex A) → Complex A
  sum_c zero f = zero_c o
  sum_c (suc n) f = plus_c o (sum_c n f) (f n)

  pub sum_same : (n : ℕ) (f g : ℕ → Complex A) → ((i : ℕ) → i < n → f i ≡ g i) → sum_c n f ≡ sum_c n g
  unfolding sum_c
  sum_same zero f g h = refl
  sum_same (suc n) f g h = rw (sum_same n f g (λ i b. h i (omega arith)), h n (omega arith))

  pub sum_zero : (n : ℕ) → sum_c n (λ i. zero_c o) ≡ zero_c o
  unfolding sum_c
  sum_zero zero = refl
  sum_zero (suc n) = ap (λ (s : Complex A). plus_c o s (zero_c o)) (sum_zero n) ∙ plus_zero_c (zero_c o)

  pub sum_plus : (n : ℕ) (f g : ℕ → Complex A) → sum_c n (λ i. plus_c o (f i) (g i)) ≡ plus_c o (sum_c n f) (sum_c n g)
  unfolding sum_c
  sum_plus zero f g = sym (plus_zero_c (zero_c o))
  sum_plus (suc n) f g =
      ap (λ (s : Complex A). plus_c o s (plus_c o (f n) (g n))) (sum_plus n f g)
      ∙ plus_swap_c (sum_c n f) (sum_c n g) (f n) (g n)

  pub sum_times : (n : ℕ) (f : ℕ → Complex A) (w : Complex A)
      → times_c o (sum_c n f) w ≡ sum_c n (λ i. times_c o (f i) w)
  unfolding sum_c
  sum_times zero f w = zero_times_c w
  sum_times (suc n) f w =
      plus_times_c (sum_c n f) (f n) w ∙ ap (λ (s : Complex A). plus_c o s (times_c o (f n) w)) (sum_times n f w)

  pub sum_on : (m n : ℕ) (f : ℕ → Complex A) → sum_c (m + n) f ≡ plus_c o (sum_c m f) (sum_c n (λ i. f (m + i)))
  unfolding sum_c
  sum_on m zero f = rw (add-zero m) (sym (plus_zero_c (sum_c m f)))
  sum_on m (suc n) f =
      rw (add-suc m n) (ap (λ (s : Complex A). plus_c o s (f (m + n))) (sum_on m n f)
      ∙ plus_assoc_c (sum_c m f) (sum_c n (λ i. f (m + i))) (f (m + n)))

  -- a sum of r * s terms, dealt out to r sums
  pub sum_dealt : (r s : ℕ) (f : ℕ → Complex A) → sum_c (r * s) f ≡ sum_c r (λ j. sum_c s (λ t. f (r * t + j)))
  unfolding sum_c
  sum_dealt r zero f = rw (mul-zero r) (sym (sum_zero r))
  sum_dealt r (suc s) f =
      rw (mul-suc r s)
      (sum_on (r * s) r f ∙ ap (λ (v : Complex A). plus_c o v (sum_c r (λ i. f (r * s + i)))) (sum_dealt r s f)
      ∙ sym (sum_plus r (λ j. sum_c s (λ t. f (r * t + j))) (λ i. f (r * s + i))))

  -- ---- the circle
  module _ (c : ℕ → A) (K : Cosines o R.one c) where
    abbrev pub e : ℕ → Complex A
    e m = record { re = c m; im = c (m + 240) }

    pub e_start : e 0 ≡ one_c
    e_start = both K.start K.quarter

    less_opposite : (x : A) → o.minus o.nought (o.minus o.nought x) ≡ x
    less_opposite x = solve o R (env (x ∷ [])) (sub nil (sub nil (var 0))) (var 0) refl

    c_turn : (m : ℕ) → c (m + 960) ≡ c m
    c_turn m =
        let two_halves : m + 960 ≡ m + 480 + 480 = omega arith in
        rw two_halves (K.opposite (m + 480) ∙ ap (λ (v : A). o.minus o.nought v) (K.opposite m)
        ∙ less_opposite (c m))

    pub c_turns : (m t : ℕ) → c (m + 960 * t) ≡ c m
    c_turns m zero = ap c (add-zero m)
    c_turns m (suc t) =
        let more : m + 960 * suc t ≡ m + 960 * t + 960 = omega arith in
        rw more (c_turn (m + 960 * t) ∙ c_turns m t)

    pub e_turns : (m t : ℕ) → e (m + 960 * t) ≡ e m
    e_turns m t =
        let on : m + 960 * t + 240 ≡ m + 240 + 960 * t = omega arith in
        both (c_turns m t) (rw on (c_turns (m + 240) t))

    pub c_within : (m : ℕ) → c (m % 960) ≡ c m
    c_within m = let whole : m % 960 + 960 * (m / 960) ≡ m = omega arith in
        sym (c_turns (m % 960) (m / 960)) ∙ ap c whole

    sine_sum : (x y z w : A)
        → o.minus (o.times x y) (o.times z (o.minus o.nought w)) ≡ o.plus (o.times x y) (o.times z w)
    sine_sum x y z w =
        solve o R (env (x ∷ y ∷ z ∷ w ∷ [])) (sub (mul (var 0) (var 1)) (mul (var 2) (sub nil (var 3))))
        (add (mul (var 0) (var 1)) (mul (var 2) (var 3))) refl

    pub e_plus : (m n : ℕ) → e (m + n) ≡ times_c o (e m) (e n)
    e_plus m n =
        let on : m + n + 240 ≡ m + (n + 240) = omega arith in
        let half : n + 240 + 240 ≡ n + 480 = omega arith in
        both (K.sum m n)
        (rw on (K.sum m (n + 240) ∙ rw (half, K.opposite n) (sine_sum (c m) (c (n + 240)) (c (m + 240)) (c n))))

    -- ---- mirror images
    pub c_mirror : (m n u : ℕ) → m + n ≡ 960 * u → c m ≡ c n
    c_mirror m n u h =
        ⊎_elim
        (λ z.
        let whole : m % 960 + n % 960 ≡ 960 = omega arith in
        sym (c_within m) ∙ K.mirror (m % 960) (n % 960) whole ∙ c_within n)
        (λ z. let same : m % 960 ≡ n % 960 = omega arith in sym (c_within m) ∙ ap c same ∙ c_within n)
        (below_or 0 (m % 960 + n % 960))

    abbrev pub conj : Complex A → Complex A
    conj x = record { re = x.re; im = o.minus o.nought x.im }

    pub e_conj : (m n u : ℕ) → m + n ≡ 960 * u → e m ≡ conj (e n)
    e_conj m n u h =
        let on : m + 240 + (n + 240 + 480) ≡ 960 * (u + 1) = omega arith in
        both (c_mirror m n u h) (c_mirror (m + 240) (n + 240 + 480) (u + 1) on ∙ K.opposite (n + 240))

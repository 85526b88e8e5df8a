-- A list of complex numbers that is filled four lanes at a time: `begun` shows `Laid` where a stage begins, `laid_bins`
-- adds the bins of four lanes, row by row, and `laid_all` reads it after the last. Assumes nothing.
use Rattle.std.specs.Prelude.{◌+◌, ◌-◌, ◌*◌, ◌/◌, ◌%◌, ◌≤◌, ◌<◌, ◌≡◌}
use Rattle.rules.proofs.Common.{ℕ, zero, suc, cond, List, refl, sym, ap, ◌∙◌}
use Rattle.rules.proofs.Common.{ltb, length, set, length-set}
use Rattle.rules.proofs.Common.{Float, nan}
use mathlib.Core.Logic.{◌⊎◌, inl, inr, ⊎_elim}
use native.Mathlib.Nat.{mul-le-mul_left, mul-suc, mul_comm, div-add-mod, mod-lt, div-lt_iff_lt-mul}
use native.Mathlib.Numerals.{add-one}
use native.Mathlib.Omega.{arith}
use borrow.Author.Tests.{lt-ltb, le-ltb}
use lib.Seq.{get_or-set_same, get_or-set_other, ext_get_or}
use Rattle.rules.specs.F32.{at}
use Rattle.rules.specs.Tab.{tab}
use Rattle.rules.proofs.Lists.{length_tab, get_d_tab, tab_same}
use Rattle.fft.specs.Ops.{Complex}
use Rattle.fft.specs.Fast.{complex_at, complexes, stage}
use Rattle.fft.specs.Single.{single}
use Rattle.fft.specs.Private.{put_four, put_complex, put_bins, complex_of, bins, item}
use Rattle.fft.specs.Private.{cx, Laid, Filled}
use Rattle.fft.specs.declared.complex.Cx.{Cx}

pub below_or : (a b : ℕ) → (a < b) ⊎ (b ≤ a)
below_or a zero = inr (omega arith)
below_or zero (suc b) = inl (omega arith)
below_or (suc a) (suc b) = ⊎_elim (λ p. inl (omega arith)) (λ q. inr (omega arith)) (below_or a b)

abbrev E : List Float → ℕ → Complex Float
E xs i = complex_at single xs i

both : {a b c d : Float} → a ≡ b → c ≡ d
    → ◌≡◌ {A = Complex Float} (record { re = a; im = c }) (record { re = b; im = d })
both p q = cc

-- ---- four numbers
module _ (xs : List Float) (p : ℕ) (a b c d : Float) where
  four_length : length (put_four xs p a b c d) ≡ length xs
  unfolding put_four
  four_length = simp length-set

  four_other : (j : ℕ) → (j ≡ p → ⊥) → (j ≡ p + 1 → ⊥) → (j ≡ p + 2 → ⊥) → (j ≡ p + 3 → ⊥)
      → at (put_four xs p a b c d) j ≡ at xs j
  unfolding put_four
  four_other j h₀ h₁ h₂ h₃ =
      get_or-set_other (set (set (set xs p a) (p + 1) b) (p + 2) c) (p + 3) j d nan h₃
      ∙ get_or-set_other (set (set xs p a) (p + 1) b) (p + 2) j c nan h₂
      ∙ get_or-set_other (set xs p a) (p + 1) j b nan h₁ ∙ get_or-set_other xs p j a nan h₀

  four_below : (j : ℕ) → j < p → at (put_four xs p a b c d) j ≡ at xs j
  four_below j h = four_other j (λ e. omega arith) (λ e. omega arith) (λ e. omega arith) (λ e. omega arith)

  four_above : (j : ℕ) → p + 4 ≤ j → at (put_four xs p a b c d) j ≡ at xs j
  four_above j h = four_other j (λ e. omega arith) (λ e. omega arith) (λ e. omega arith) (λ e. omega arith)

  module _ (room : p + 4 ≤ length xs) where
    four_0 : at (put_four xs p a b c d) p ≡ a
    unfolding put_four
    four_0 =
        get_or-set_other (set (set (set xs p a) (p + 1) b) (p + 2) c) (p + 3) p d nan (λ e. omega arith)
        ∙ get_or-set_other (set (set xs p a) (p + 1) b) (p + 2) p c nan (λ e. omega arith)
        ∙ get_or-set_other (set xs p a) (p + 1) p b nan (λ e. omega arith) ∙ get_or-set_same xs p a nan (omega arith)

    four_1 : at (put_four xs p a b c d) (p + 1) ≡ b
    unfolding put_four
    four_1 =
        get_or-set_other (set (set (set xs p a) (p + 1) b) (p + 2) c) (p + 3) (p + 1) d nan (λ e. omega arith)
        ∙ get_or-set_other (set (set xs p a) (p + 1) b) (p + 2) (p + 1) c nan (λ e. omega arith)
        ∙ get_or-set_same (set xs p a) (p + 1) b nan (simp length-set (omega arith))

    four_2 : at (put_four xs p a b c d) (p + 2) ≡ c
    unfolding put_four
    four_2 =
        get_or-set_other (set (set (set xs p a) (p + 1) b) (p + 2) c) (p + 3) (p + 2) d nan (λ e. omega arith)
        ∙ get_or-set_same (set (set xs p a) (p + 1) b) (p + 2) c nan (simp length-set (omega arith))

    four_3 : at (put_four xs p a b c d) (p + 3) ≡ d
    unfolding put_four
    four_3 = get_or-set_same (set (set (set xs p a) (p + 1) b) (p + 2) c) (p + 3) d nan (simp length-set (omega arith))

-- ---- four complex numbers
module _ (xs : List Float) (p : ℕ) (w x y v : Cx) (long : length xs ≡ 960) (room : p + 4 ≤ 480) where
  abbrev half : List Float
  half = put_four xs p w.re x.re y.re v.re

  half_long : length half ≡ 960
  half_long = four_length xs p w.re x.re y.re v.re ∙ long

  put_long : length (put_complex xs p w x y v) ≡ 960
  unfolding put_complex
  put_long = four_length half (480 + p) w.im x.im y.im v.im ∙ half_long

  put_below : (j : ℕ) → j < p → E (put_complex xs p w x y v) j ≡ E xs j
  unfolding put_complex
  put_below j h = both
      (four_below half (480 + p) _ _ _ _ j (omega arith) ∙ four_below xs p _ _ _ _ j h)
      (four_below half (480 + p) _ _ _ _ (480 + j) (omega arith) ∙ four_above xs p _ _ _ _ (480 + j) (omega arith))

  put_above : (j : ℕ) → p + 4 ≤ j → j < 480 → E (put_complex xs p w x y v) j ≡ E xs j
  unfolding put_complex
  put_above j h k = both
      (four_below half (480 + p) _ _ _ _ j (omega arith) ∙ four_above xs p _ _ _ _ j h)
      (four_above half (480 + p) _ _ _ _ (480 + j) (omega arith) ∙ four_above xs p _ _ _ _ (480 + j) (omega arith))

  fits : p + 4 ≤ length xs
  fits = omega (arith, long)

  fits_too : 480 + p + 4 ≤ length half
  fits_too = omega (arith, half_long)

  put_0 : E (put_complex xs p w x y v) p ≡ complex_of w
  unfolding put_complex
  put_0 =
      both (four_below half (480 + p) _ _ _ _ p (omega arith) ∙ four_0 xs p _ _ _ _ fits)
      (four_0 half (480 + p) _ _ _ _ fits_too)

  put_1 : E (put_complex xs p w x y v) (p + 1) ≡ complex_of x
  unfolding put_complex
  put_1 = both (four_below half (480 + p) _ _ _ _ (p + 1) (omega arith) ∙ four_1 xs p _ _ _ _ fits)
      (let e : 480 + (p + 1) ≡ 480 + p + 1 = omega arith in rw e (four_1 half (480 + p) _ _ _ _ fits_too))

  put_2 : E (put_complex xs p w x y v) (p + 2) ≡ complex_of y
  unfolding put_complex
  put_2 = both (four_below half (480 + p) _ _ _ _ (p + 2) (omega arith) ∙ four_2 xs p _ _ _ _ fits)
      (let e : 480 + (p + 2) ≡ 480 + p + 2 = omega arith in rw e (four_2 half (480 + p) _ _ _ _ fits_too))

  put_3 : E (put_complex xs p w x y v) (p + 3) ≡ complex_of v
  unfolding put_complex
  put_3 = both (four_below half (480 + p) _ _ _ _ (p + 3) (omega arith) ∙ four_3 xs p _ _ _ _ fits)
      (let e : 480 + (p + 3) ≡ 480 + p + 3 = omega arith in rw e (four_3 half (480 + p) _ _ _ _ fits_too))

-- ---- rows: of four more lanes, the first k bins are in their places
pub record Laying (r n : ℕ) (g : ℕ → ℕ → Complex Float) (i k : ℕ) (held : List Float) : Type 0 where
  pub long : length held ≡ 960
  pub behind : (a b : ℕ) → a < r → b < i → E held (n * a + b) ≡ g b a
  pub here : (a b : ℕ) → a < k → b < 4 → E held (n * a + (i + b)) ≡ g (i + b) a

module _ (r n : ℕ) (g : ℕ → ℕ → Complex Float) (whole : n * r ≡ 480) where
  pub begun : (held : List Float) → length held ≡ 960 → Laid r n g 0 held
  begun held l = record { long = l; behind = λ a b h k. absurd (omega arith) }

  module _ (i : ℕ) where
    pub lay_begin : {held : List Float} → Laid r n g i held → Laying r n g i 0 held
    lay_begin h = record { long = h.long; behind = h.behind; here = λ a b h k. absurd (omega arith) }

    pub lay_more : (k : ℕ) {held : List Float} {w x y v : Cx} → Laying r n g i k held → k < r → i + 4 ≤ n
        → complex_of w ≡ g i k → complex_of x ≡ g (i + 1) k → complex_of y ≡ g (i + 2) k → complex_of v ≡ g (i + 3) k
        → Laying r n g i (k + 1) (put_complex held (n * k + i) w x y v)
    lay_more k {held} {w} {x} {y} {v} h inside room e₀ e₁ e₂ e₃ =
        let top : n * (k + 1) ≤ n * r = mul-le-mul_left n (omega arith) in
        let one_more_lem : n * (k + 1) ≡ n * k + n = times_more n k in
        let fit : n * k + i + 4 ≤ 480 = omega arith in
        record {
          long = put_long held (n * k + i) w x y v h.long fit;
          behind = λ a b p q. ⊎_elim (λ z. before a b p q z fit) (λ z. after a b p q z fit) (below_or k a);
          here = λ a b p q. ⊎_elim (λ z. passed a b z q fit) (λ z. now a b (omega arith) q fit) (below_or a k);
        }
      where
        times_more : (m j : ℕ) → m * (j + 1) ≡ m * j + m
        times_more m j = rw (add-one j) (mul-suc m j)

        before : (a b : ℕ) → a < r → b < i → k < a → n * k + i + 4 ≤ 480
            → E (put_complex held (n * k + i) w x y v) (n * a + b) ≡ g b a
        before a b p q z fit =
            let low : n * (k + 1) ≤ n * a = mul-le-mul_left n (omega arith) in
            let high : n * (a + 1) ≤ n * r = mul-le-mul_left n (omega arith) in
            let one_more_lem : n * (k + 1) ≡ n * k + n = times_more n k in
            let two_more : n * (a + 1) ≡ n * a + n = times_more n a in
            put_above held (n * k + i) w x y v h.long fit (n * a + b) (omega arith) (omega arith) ∙ h.behind a b p q

        after : (a b : ℕ) → a < r → b < i → a ≤ k → n * k + i + 4 ≤ 480
            → E (put_complex held (n * k + i) w x y v) (n * a + b) ≡ g b a
        after a b p q z fit =
            let low : n * a ≤ n * k = mul-le-mul_left n (omega arith) in
            put_below held (n * k + i) w x y v h.long fit (n * a + b) (omega arith) ∙ h.behind a b p q

        passed : (a b : ℕ) → a < k → b < 4 → n * k + i + 4 ≤ 480
            → E (put_complex held (n * k + i) w x y v) (n * a + (i + b)) ≡ g (i + b) a
        passed a b p q fit =
            let low : n * (a + 1) ≤ n * k = mul-le-mul_left n (omega arith) in
            let one_more_lem : n * (a + 1) ≡ n * a + n = times_more n a in
            put_below held (n * k + i) w x y v h.long fit (n * a + (i + b)) (omega arith) ∙ h.here a b p q

        lane : (b : ℕ) → b < 4 → n * k + i + 4 ≤ 480
            → E (put_complex held (n * k + i) w x y v) (n * k + (i + b)) ≡ g (i + b) k
        lane zero q fit = let e : n * k + (i + 0) ≡ n * k + i = omega arith in let e' : i + 0 ≡ i = omega arith in
            rw (e, e') (put_0 held (n * k + i) w x y v h.long fit ∙ e₀)
        lane (suc zero) q fit = let e : n * k + (i + 1) ≡ n * k + i + 1 = omega arith in
            rw e (put_1 held (n * k + i) w x y v h.long fit ∙ e₁)
        lane (suc (suc zero)) q fit = let e : n * k + (i + 2) ≡ n * k + i + 2 = omega arith in
            rw e (put_2 held (n * k + i) w x y v h.long fit ∙ e₂)
        lane (suc (suc (suc zero))) q fit = let e : n * k + (i + 3) ≡ n * k + i + 3 = omega arith in
            rw e (put_3 held (n * k + i) w x y v h.long fit ∙ e₃)
        lane (suc (suc (suc (suc b)))) q fit = absurd (omega arith)

        now : (a b : ℕ) → a ≡ k → b < 4 → n * k + i + 4 ≤ 480
            → E (put_complex held (n * k + i) w x y v) (n * a + (i + b)) ≡ g (i + b) a
        now a b e q fit = rw e (lane b q fit)

    pub lay_at : (k : ℕ) {p : ℕ} {held : List Float} {w x y v : Cx} → p ≡ n * k + i → Laying r n g i k held → k < r
        → i + 4 ≤ n
        → complex_of w ≡ g i k → complex_of x ≡ g (i + 1) k → complex_of y ≡ g (i + 2) k → complex_of v ≡ g (i + 3) k
        → Laying r n g i (k + 1) (put_complex held p w x y v)
    lay_at k e h inside room e₀ e₁ e₂ e₃ = rw e (lay_more k h inside room e₀ e₁ e₂ e₃)

    pub lay_end : {held : List Float} → Laying r n g i r held → Laid r n g (i + 4) held
    lay_end {held} h =
        record {
          long = h.long;
          behind = λ a b p q. ⊎_elim (λ z. h.behind a b p z) (λ z. late a b p q z) (below_or b i);
        }
      where
        late : (a b : ℕ) → a < r → b < i + 4 → i ≤ b → E held (n * a + b) ≡ g b a
        late a b p q z =
            let e : i + (b - i) ≡ b = omega arith in
            rw e at (h.here a (b - i) p (omega arith))

  laid : 0 < n → {held : List Float} → Laid r n g n held → held ≡ complexes (λ j. g (j % n) (j / n))
  unfolding complexes
  laid pos {held} h =
      let f : ℕ → Float = λ j. cond (ltb j 480) (g (j % n) (j / n)).re (g ((j - 480) % n) ((j - 480) / n)).im in
      ext_get_or nan held (tab 960 f) (h.long ∙ sym (length_tab 960 f))
      (λ j room. let inside : j < 960 = omega (arith, h.long) in each j inside ∙ sym (get_d_tab 960 f j nan inside))
    where
      whole_entry : (j : ℕ) → j < 480 → E held j ≡ g (j % n) (j / n)
      whole_entry j q =
          let small : j / n < r = (div-lt_iff_lt-mul pos).1 (omega (arith, mul_comm n r)) in
          rw (div-add-mod j n) at (h.behind (j / n) (j % n) small (mod-lt j pos))

      each : (j : ℕ) → j < 960
          → at held j ≡ cond (ltb j 480) (g (j % n) (j / n)).re (g ((j - 480) % n) ((j - 480) / n)).im
      each j q = ⊎_elim
          (λ z. rw (lt-ltb j 480 z) (ap (λ (e : Complex Float). e.re) (whole_entry j z)))
          (λ z. let e : 480 + (j - 480) ≡ j = omega arith in let low : j - 480 < 480 = omega arith in
          let got : at held (480 + (j - 480)) ≡ (g ((j - 480) % n) ((j - 480) / n)).im =
          ap (λ (e : Complex Float). e.im) (whole_entry (j - 480) low) in
          rw (le-ltb j 480 z) (rw e at got))
          (below_or j 480)

  -- after the last lane
  pub laid_all : 0 < n → (i : ℕ) {held : List Float} → i ≤ n → n ≤ i → Laid r n g i held → held ≡ stage n g
  laid_all pos i below above h = let e : i ≡ n = omega arith in laid pos (rw e at h)

-- ---- the bins of four lanes
pub item_of : (r k : ℕ) (f : ℕ → Complex Float) {w : List Cx} → k < r → w ≡ bins r f → complex_of (item w k) ≡ f k
item_of r k f h e = rw e (ap complex_of (get_d_tab r (λ k. cx (f k)) k (record { re = nan; im = nan }) h))

module _ (r n : ℕ) (whole : n * r ≡ 480) (g : ℕ → ℕ → Complex Float) (i : ℕ) (room : i + 4 ≤ n) where
  pub laid_bins : {held now : List Float} {w x y v : List Cx} → Laid r n g i held
      → w ≡ bins r (g i) → x ≡ bins r (g (i + 1)) → y ≡ bins r (g (i + 2)) → v ≡ bins r (g (i + 3))
      → now ≡ put_bins r held n i w x y v → Laid r n g (i + 4) now
  laid_bins {held} {now} {w} {x} {y} {v} h p q u t e = rw e (lay_end r n g whole i (upto r (omega arith)))
    where
      upto : (k : ℕ) → k ≤ r → Laying r n g i k (put_bins k held n i w x y v)
      upto zero below = lay_begin r n g whole i h
      upto (suc k) below =
          rw (← add-one k) (lay_more r n g whole i k (upto k (omega arith)) (omega arith) room
          (item_of r k (g i) (omega arith) p) (item_of r k (g (i + 1)) (omega arith) q)
          (item_of r k (g (i + 2)) (omega arith) u) (item_of r k (g (i + 3)) (omega arith) t))

-- ---- lists filled from the front
module _ (n : ℕ) (f : ℕ → Float) where
  pub filled_more : (i : ℕ) {held now : List Float} {a b c d : Float} → i + 4 ≤ n → Filled n f i held → a ≡ f i
      → b ≡ f (i + 1) → c ≡ f (i + 2) → d ≡ f (i + 3)
      → now ≡ put_four held i a b c d → Filled n f (i + 4) now
  filled_more i {held} {now} {a} {b} {c} {d} room h p q u v e = rw e (record {
    long = four_length held i a b c d ∙ h.long;
    behind = λ j k. ⊎_elim (λ z. four_below held i a b c d j z ∙ h.behind j z)
        (λ z. let s : i + (j - i) ≡ j = omega arith in rw s at (lane (j - i) (omega arith))) (below_or j i);
  })
    where
      fits : i + 4 ≤ length held
      fits = omega (arith, h.long)

      lane : (k : ℕ) → k < 4 → at (put_four held i a b c d) (i + k) ≡ f (i + k)
      lane zero z = let s : i + 0 ≡ i = omega arith in rw s (four_0 held i a b c d fits ∙ p)
      lane (suc zero) z = four_1 held i a b c d fits ∙ q
      lane (suc (suc zero)) z = four_2 held i a b c d fits ∙ u
      lane (suc (suc (suc zero))) z = four_3 held i a b c d fits ∙ v
      lane (suc (suc (suc (suc k)))) z = absurd (omega arith)

  pub filled_all : {held : List Float} → Filled n f n held → held ≡ tab n f
  filled_all {held} h =
      ext_get_or nan held (tab n f) (h.long ∙ sym (length_tab n f))
      (λ j room. let inside : j < n = omega (arith, h.long) in h.behind j inside ∙ sym (get_d_tab n f j nan inside))

-- ---- single lanes
pub laid_ones : (f : ℕ → Complex Float) (i : ℕ) {held now : List Float} {w x y v : Cx} → i + 4 ≤ 480
    → Laid 1 480 (λ b a. f b) i held
    → w ≡ cx (f i) → x ≡ cx (f (i + 1)) → y ≡ cx (f (i + 2)) → v ≡ cx (f (i + 3)) → now ≡ put_complex held i w x y v
    → Laid 1 480 (λ b a. f b) (i + 4) now
laid_ones f i room h p q u t e =
    rw e (lay_end 1 480 (λ b a. f b) refl i
    (lay_at 1 480 (λ b a. f b) refl i 0 (omega arith) (lay_begin 1 480 (λ b a. f b) refl i h) (omega arith) room
    (ap complex_of p) (ap complex_of q) (ap complex_of u) (ap complex_of t)))

pub complexes_same : (f g : ℕ → Complex Float) → ((j : ℕ) → j < 480 → f j ≡ g j) → complexes f ≡ complexes g
unfolding complexes
complexes_same f g h = tab_same 960 _ _ (λ j q. each j q)
  where
    each : (j : ℕ) → j < 960
        → cond (ltb j 480) (f j).re (f (j - 480)).im ≡ cond (ltb j 480) (g j).re (g (j - 480)).im
    each j q = ⊎_elim (λ z. simp (lt-ltb j 480 z) (ap (λ (e : Complex Float). e.re) (h j z)))
        (λ z.
        let low : j - 480 < 480 = omega arith in
        simp (le-ltb j 480 z) (ap (λ (e : Complex Float). e.im) (h (j - 480) low))) (below_or j 480)

pub laid_single : (f : ℕ → Complex Float) (i : ℕ) {held : List Float} → i ≤ 480 → 480 ≤ i
    → Laid 1 480 (λ b a. f b) i held → held ≡ complexes f
laid_single f i below above h =
    laid_all 1 480 (λ b a. f b) refl (omega arith) i below above h
    ∙ complexes_same (λ j. f (j % 480)) f (λ j q. let e : j % 480 ≡ j = omega arith in ap f e)

-- A stage of the complex transform, over a ring: where the list holds the transforms of s numbers that stand r * m
-- apart, it then holds those of r * s numbers that stand m apart. So the five stages are the transform of 480 numbers.
-- Assumes nothing.
use Rattle.std.specs.Prelude.{◌+◌, ◌-◌, ◌*◌, ◌/◌, ◌%◌, ◌<◌, ◌≡◌}
use Rattle.rules.proofs.Common.{ℕ, cond, List, sym, ap, ◌∙◌, ltb}
use native.Mathlib.Nat.{add-mul, mul-add, mul-mul-mul_comm, mul_assoc, mul_left_comm, div-add-mod}
use native.Mathlib.Omega.{arith}
use borrow.Author.Tests.{lt-ltb, le-ltb}
use Rattle.rules.proofs.Lists.{get_d_tab}
use Rattle.fft.specs.Ops.{Ops, Complex}
use Rattle.fft.specs.Exact.{Ring, Cosines}
use Rattle.fft.specs.Fast.{complex_at, complexes, of_two, of_three, of_four, of_five, first, angle, row2, row3, row4}
use Rattle.fft.specs.Fast.{row5, stage, transformed}
use Rattle.fft.proofs.Circle.{zero_c, plus_c, times_c, both, times_assoc_c, times_one_c, sum_c, sum_same, sum_times}
use Rattle.fft.proofs.Circle.{sum_dealt, e, e_start, e_turns, e_plus}
use Rattle.fft.proofs.Solver.{nought_plus}
use Rattle.fft.proofs.Butterflies.{two_right, three_right, four_right, five_right}

-- (r t + j)(s q + k)
expand : (r t j s q k : ℕ) → (r * t + j) * (s * q + k) ≡ r * s * (t * q) + r * (t * k) + (s * (j * q) + j * k)
expand r t j s q k =
    rw (
      add-mul (r * t) j (s * q + k),
      mul-add (r * t) (s * q) k,
      mul-add j (s * q) k,
      mul-mul-mul_comm r t s q,
      mul_assoc r t k,
      mul_left_comm j s q,
    )

-- what is asked of the numbers of a stage
pub record Plan (r m s : ℕ) : Type 0 where
  pub inside : (K p : ℕ) → K < r * s → p < m → m * K + p < 480
  pub lane : (K p : ℕ) → K < r * s → p < m → (m * K + p) % (m * s) ≡ m * (K % s) + p
  pub bin : (K p : ℕ) → K < r * s → p < m → (m * K + p) / (m * s) ≡ K / s
  pub few : (K : ℕ) → K < r * s → K / s < r
  pub small : (K : ℕ) → K < r * s → K % s < s
  pub block : (k p : ℕ) → k < s → p < m → (m * k + p) / m ≡ k
  pub offset : (k p : ℕ) → k < s → p < m → (m * k + p) % m ≡ p
  pub narrow : (k p : ℕ) → k < s → p < m → m * k + p < m * s
  pub next : (j p : ℕ) → j < r → p < m → p + m * j < r * m
  pub place : (k p j : ℕ) → r * m * k + p + m * j ≡ r * m * k + (p + m * j)
  pub index : (p j t : ℕ) → p + m * j + r * m * t ≡ p + m * (r * t + j)
  pub turn : (t j K : ℕ) → 2 * m * ((r * t + j) * K)
      ≡ 2 * (r * m) * (t * (K % s)) + 2 * m * (j * (K % s)) + 2 * (m * s) * (j * (K / s)) + 960 * (t * (K / s))

plan5 : Plan 5 96 1
plan5 = record {
  inside = λ K p h k. omega arith;
  lane = λ K p h k. omega arith;
  bin = λ K p h k. omega arith;
  few = λ K h. omega arith;
  small = λ K h. omega arith;
  block = λ k p h g. omega arith;
  offset = λ k p h g. omega arith;
  narrow = λ k p h g. omega arith;
  next = λ j p h g. omega arith;
  place = λ k p j. omega arith;
  index = λ p j t. omega arith;
  turn = λ t j K. omega (arith, rw (div-add-mod K 1) at (expand 5 t j 1 (K / 1) (K % 1)));
}

plan3 : Plan 3 32 5
plan3 = record {
  inside = λ K p h k. omega arith;
  lane = λ K p h k. omega arith;
  bin = λ K p h k. omega arith;
  few = λ K h. omega arith;
  small = λ K h. omega arith;
  block = λ k p h g. omega arith;
  offset = λ k p h g. omega arith;
  narrow = λ k p h g. omega arith;
  next = λ j p h g. omega arith;
  place = λ k p j. omega arith;
  index = λ p j t. omega arith;
  turn = λ t j K. omega (arith, rw (div-add-mod K 5) at (expand 3 t j 5 (K / 5) (K % 5)));
}

plan4 : Plan 4 8 15
plan4 = record {
  inside = λ K p h k. omega arith;
  lane = λ K p h k. omega arith;
  bin = λ K p h k. omega arith;
  few = λ K h. omega arith;
  small = λ K h. omega arith;
  block = λ k p h g. omega arith;
  offset = λ k p h g. omega arith;
  narrow = λ k p h g. omega arith;
  next = λ j p h g. omega arith;
  place = λ k p j. omega arith;
  index = λ p j t. omega arith;
  turn = λ t j K. omega (arith, rw (div-add-mod K 15) at (expand 4 t j 15 (K / 15) (K % 15)));
}

plan2 : Plan 2 4 60
plan2 = record {
  inside = λ K p h k. omega arith;
  lane = λ K p h k. omega arith;
  bin = λ K p h k. omega arith;
  few = λ K h. omega arith;
  small = λ K h. omega arith;
  block = λ k p h g. omega arith;
  offset = λ k p h g. omega arith;
  narrow = λ k p h g. omega arith;
  next = λ j p h g. omega arith;
  place = λ k p j. omega arith;
  index = λ p j t. omega arith;
  turn = λ t j K. omega (arith, rw (div-add-mod K 60) at (expand 2 t j 60 (K / 60) (K % 60)));
}

plan1 : Plan 4 1 120
plan1 = record {
  inside = λ K p h k. omega arith;
  lane = λ K p h k. omega arith;
  bin = λ K p h k. omega arith;
  few = λ K h. omega arith;
  small = λ K h. omega arith;
  block = λ k p h g. omega arith;
  offset = λ k p h g. omega arith;
  narrow = λ k p h g. omega arith;
  next = λ j p h g. omega arith;
  place = λ k p j. omega arith;
  index = λ p j t. omega arith;
  turn = λ t j K. omega (arith, rw (div-add-mod K 120) at (expand 4 t j 120 (K / 120) (K % 120)));
}

module _ {A : Type 0} (o : Ops A) (R : Ring o) (c : ℕ → A) (K : Cosines o R.one c) where
  abbrev E : ℕ → Complex A
  E m = e o R c K m

  infixl 70 ◌×ᶜ◌
  abbrev ◌×ᶜ◌ : Complex A → Complex A → Complex A
  x ×ᶜ y = times_c o x y

  pub entry_complexes : (f : ℕ → Complex A) (j : ℕ) → j < 480 → complex_at o (complexes f) j ≡ f j
  unfolding complexes
  entry_complexes f j h =
      let g : ℕ → A = λ i. cond (ltb i 480) (f i).re (f (i - 480)).im in
      let same : 480 + j - 480 ≡ j = omega arith in
      both o R (get_d_tab 960 g j o.beyond (omega arith) ∙ simp (lt-ltb j 480 h))
      (get_d_tab 960 g (480 + j) o.beyond (omega arith) ∙ simp (le-ltb (480 + j) 480 (omega arith), same))

  module _ (z : ℕ → Complex A) where
    -- the place n * k + p holds bin k of the transform of the s numbers z[p], z[p + n], ..
    abbrev pub Done : ℕ → ℕ → List A → Type 0
    Done s n xs = (k p : ℕ) → k < s → p < n
        → complex_at o xs (n * k + p) ≡ sum_c o R s (λ t. z (p + n * t) ×ᶜ E (2 * n * (t * k)))

    -- three turns, one after the other
    turns : (x : Complex A) (α β γ δ u : ℕ) → δ ≡ α + β + γ + 960 * u → x ×ᶜ E α ×ᶜ E β ×ᶜ E γ ≡ x ×ᶜ E δ
    turns x α β γ δ u h =
        times_assoc_c o R (x ×ᶜ E α) (E β) (E γ) ∙ times_assoc_c o R x (E α) (E β ×ᶜ E γ)
        ∙ ap (λ (w : Complex A). x ×ᶜ w)
        (sym (times_assoc_c o R (E α) (E β) (E γ)) ∙ ap (λ (w : Complex A). w ×ᶜ E γ) (sym (e_plus o R c K α β))
        ∙ sym (e_plus o R c K (α + β) γ)
        ∙ sym (e_turns o R c K (α + β + γ) u) ∙ ap E (sym h))

    module _ (r m s : ℕ) (plan : Plan r m s) (row : ℕ → ℕ → Complex A) (xs : List A) where
      abbrev Rows : Type 0
      Rows = (i q : ℕ) → i < m * s → q < r → row i q
          ≡ sum_c o R r (λ j. complex_at o xs (r * m * (i / m) + i % m + m * j) ×ᶜ E (2 * m * (j * (i / m))) ×ᶜ E
          (2 * (m * s) * (j * q)))

      -- number j of a lane, from the sums that the list holds
      number : Done s (r * m) xs → (B p j : ℕ) → B < r * s → p < m → j < r
          → complex_at o xs (r * m * (B % s) + p + m * j) ×ᶜ E (2 * m * (j * (B % s)))
          ×ᶜ E (2 * (m * s) * (j * (B / s)))
          ≡ sum_c o R s (λ t. z (p + m * (r * t + j)) ×ᶜ E (2 * m * ((r * t + j) * B)))
      number done B p j hB hp hj =
          let here : complex_at o xs (r * m * (B % s) + p + m * j)
          ≡ sum_c o R s (λ t. z (p + m * j + r * m * t) ×ᶜ E (2 * (r * m) * (t * (B % s)))) =
          ap (λ (i : ℕ). complex_at o xs i) (plan.place (B % s) p j)
          ∙ done (B % s) (p + m * j) (plan.small B hB) (plan.next j p hj hp) in
          ap (λ (v : Complex A). v ×ᶜ E (2 * m * (j * (B % s))) ×ᶜ E (2 * (m * s) * (j * (B / s)))) here
          ∙ ap (λ (v : Complex A). v ×ᶜ E (2 * (m * s) * (j * (B / s))))
          (sum_times o R s (λ t. z (p + m * j + r * m * t) ×ᶜ E (2 * (r * m) * (t * (B % s))))
          (E (2 * m * (j * (B % s)))))
          ∙ sum_times o R s (λ t. z (p + m * j + r * m * t) ×ᶜ E (2 * (r * m) * (t * (B % s))) ×ᶜ E
          (2 * m * (j * (B % s)))) (E (2 * (m * s) * (j * (B / s))))
          ∙ sum_same o R s _ _ (λ t b.
          turns (z (p + m * j + r * m * t)) (2 * (r * m) * (t * (B % s))) (2 * m * (j * (B % s)))
          (2 * (m * s) * (j * (B / s))) (2 * m * ((r * t + j) * B)) (t * (B / s)) (plan.turn t j B)
          ∙ ap (λ (i : ℕ). z i ×ᶜ E (2 * m * ((r * t + j) * B))) (plan.index p j t))

      pub staged : Done s (r * m) xs → Rows → Done (r * s) m (stage (m * s) row)
      staged done rows B p hB hp =
          let small = plan.small B hB in
          entry_complexes (λ j. row (j % (m * s)) (j / (m * s))) (m * B + p) (plan.inside B p hB hp)
          ∙ ap (λ (i : ℕ). row i ((m * B + p) / (m * s))) (plan.lane B p hB hp)
          ∙ ap (λ (q : ℕ). row (m * (B % s) + p) q) (plan.bin B p hB hp)
          ∙ rows (m * (B % s) + p) (B / s) (plan.narrow (B % s) p small hp) (plan.few B hB)
          ∙ ap (λ (k : ℕ). sum_c o R r
          (λ j. complex_at o xs (r * m * k + (m * (B % s) + p) % m + m * j) ×ᶜ E (2 * m * (j * k)) ×ᶜ E
          (2 * (m * s) * (j * (B / s))))) (plan.block (B % s) p small hp)
          ∙ ap (λ (w : ℕ). sum_c o R r
          (λ j. complex_at o xs (r * m * (B % s) + w + m * j) ×ᶜ E (2 * m * (j * (B % s)))
          ×ᶜ E (2 * (m * s) * (j * (B / s))))) (plan.offset (B % s) p small hp)
          ∙ sum_same o R r _ _ (λ j hj. number done B p j hB hp hj)
          ∙ sym (sum_dealt o R r s (λ t. z (p + m * t) ×ᶜ E (2 * m * (t * B))))

    -- ---- the five stages
    module _ (xs : List A) where
      at_first : (u v β : ℕ) → u ≡ v → β ≡ 0 → complex_at o xs u ≡ complex_at o xs v ×ᶜ E β
      at_first u v β p q =
          sym (times_one_c o R (complex_at o xs u))
          ∙ ap (λ (w : Complex A). complex_at o xs u ×ᶜ w) (sym (e_start o R c K) ∙ ap E (sym q))
          ∙ ap (λ (i : ℕ). complex_at o xs i ×ᶜ E β) p

      at_turn : (u v α β : ℕ) → u ≡ v → α ≡ β → complex_at o xs u ×ᶜ E α ≡ complex_at o xs v ×ᶜ E β
      at_turn u v α β p q = ap (λ (i : ℕ). complex_at o xs i ×ᶜ E α) p ∙ ap (λ (a : ℕ). complex_at o xs v ×ᶜ E a) q

      two_same : (q : ℕ) {a b a' b' : Complex A} → a ≡ a' → b ≡ b' → of_two o a b q ≡ of_two o a' b' q
      two_same q pa pb = rw (pa, pb)

      three_same : (q : ℕ) {a b d a' b' d' : Complex A} → a ≡ a' → b ≡ b' → d ≡ d'
          → of_three o c a b d q ≡ of_three o c a' b' d' q
      three_same q pa pb pd = rw (pa, pb, pd)

      four_same : (q : ℕ) {a b d e a' b' d' e' : Complex A} → a ≡ a' → b ≡ b' → d ≡ d' → e ≡ e'
          → of_four o a b d e q ≡ of_four o a' b' d' e' q
      four_same q pa pb pd pe = rw (pa, pb, pd, pe)

      five_same : (q : ℕ) {a b d e f a' b' d' e' f' : Complex A} → a ≡ a' → b ≡ b' → d ≡ d' → e ≡ e' → f ≡ f'
          → of_five o c a b d e f q ≡ of_five o c a' b' d' e' f' q
      five_same q pa pb pd pe pf = rw (pa, pb, pd, pe, pf)

      rows5 : Rows 5 96 1 plan5 (row5 o c xs) xs
      unfolding row5
      rows5 i q h g =
          five_same q
          (at_first (i) (5 * 96 * (i / 96) + i % 96 + 96 * 0) (2 * 96 * (0 * (i / 96))) (omega arith) (omega arith))
          (at_first (i + 96) (5 * 96 * (i / 96) + i % 96 + 96 * 1) (2 * 96 * (1 * (i / 96))) (omega arith)
          (omega arith))
          (at_first (i + 192) (5 * 96 * (i / 96) + i % 96 + 96 * 2) (2 * 96 * (2 * (i / 96))) (omega arith)
          (omega arith))
          (at_first (i + 288) (5 * 96 * (i / 96) + i % 96 + 96 * 3) (2 * 96 * (3 * (i / 96))) (omega arith)
          (omega arith))
          (at_first (i + 384) (5 * 96 * (i / 96) + i % 96 + 96 * 4) (2 * 96 * (4 * (i / 96))) (omega arith)
          (omega arith))
          ∙ five_right o R c K (λ j.
          complex_at o xs (5 * 96 * (i / 96) + i % 96 + 96 * j) ×ᶜ E (2 * 96 * (j * (i / 96)))) q g

      rows3 : Rows 3 32 5 plan3 (row3 o c 32 xs) xs
      unfolding row3
      rows3 i q h g =
          three_same q
          (at_first (first 3 32 i) (3 * 32 * (i / 32) + i % 32 + 32 * 0) (2 * 32 * (0 * (i / 32))) (omega arith)
          (omega arith))
          (at_turn (first 3 32 i + 32) (3 * 32 * (i / 32) + i % 32 + 32 * 1) (angle 32 i) (2 * 32 * (1 * (i / 32)))
          (omega arith) (omega arith))
          (at_turn (first 3 32 i + 2 * 32) (3 * 32 * (i / 32) + i % 32 + 32 * 2) (2 * angle 32 i)
          (2 * 32 * (2 * (i / 32))) (omega arith) (omega arith))
          ∙ three_right o R c K (λ j.
          complex_at o xs (3 * 32 * (i / 32) + i % 32 + 32 * j) ×ᶜ E (2 * 32 * (j * (i / 32)))) q g

      rows4 : Rows 4 8 15 plan4 (row4 o c 8 xs) xs
      unfolding row4
      rows4 i q h g =
          four_same q
          (at_first (first 4 8 i) (4 * 8 * (i / 8) + i % 8 + 8 * 0) (2 * 8 * (0 * (i / 8))) (omega arith) (omega arith))
          (at_turn (first 4 8 i + 8) (4 * 8 * (i / 8) + i % 8 + 8 * 1) (angle 8 i) (2 * 8 * (1 * (i / 8))) (omega arith)
          (omega arith))
          (at_turn (first 4 8 i + 2 * 8) (4 * 8 * (i / 8) + i % 8 + 8 * 2) (2 * angle 8 i) (2 * 8 * (2 * (i / 8)))
          (omega arith) (omega arith))
          (at_turn (first 4 8 i + 3 * 8) (4 * 8 * (i / 8) + i % 8 + 8 * 3) (3 * angle 8 i) (2 * 8 * (3 * (i / 8)))
          (omega arith) (omega arith))
          ∙ four_right o R c K (λ j. complex_at o xs (4 * 8 * (i / 8) + i % 8 + 8 * j) ×ᶜ E (2 * 8 * (j * (i / 8)))) q g

      rows2 : Rows 2 4 60 plan2 (row2 o c 4 xs) xs
      unfolding row2
      rows2 i q h g =
          two_same q
          (at_first (first 2 4 i) (2 * 4 * (i / 4) + i % 4 + 4 * 0) (2 * 4 * (0 * (i / 4))) (omega arith) (omega arith))
          (at_turn (first 2 4 i + 4) (2 * 4 * (i / 4) + i % 4 + 4 * 1) (angle 4 i) (2 * 4 * (1 * (i / 4))) (omega arith)
          (omega arith))
          ∙ two_right o R c K (λ j. complex_at o xs (2 * 4 * (i / 4) + i % 4 + 4 * j) ×ᶜ E (2 * 4 * (j * (i / 4)))) q g

      rows1 : Rows 4 1 120 plan1 (row4 o c 1 xs) xs
      unfolding row4
      rows1 i q h g =
          four_same q
          (at_first (first 4 1 i) (4 * 1 * (i / 1) + i % 1 + 1 * 0) (2 * 1 * (0 * (i / 1))) (omega arith) (omega arith))
          (at_turn (first 4 1 i + 1) (4 * 1 * (i / 1) + i % 1 + 1 * 1) (angle 1 i) (2 * 1 * (1 * (i / 1))) (omega arith)
          (omega arith))
          (at_turn (first 4 1 i + 2 * 1) (4 * 1 * (i / 1) + i % 1 + 1 * 2) (2 * angle 1 i) (2 * 1 * (2 * (i / 1)))
          (omega arith) (omega arith))
          (at_turn (first 4 1 i + 3 * 1) (4 * 1 * (i / 1) + i % 1 + 1 * 3) (3 * angle 1 i) (2 * 1 * (3 * (i / 1)))
          (omega arith) (omega arith))
          ∙ four_right o R c K (λ j. complex_at o xs (4 * 1 * (i / 1) + i % 1 + 1 * j) ×ᶜ E (2 * 1 * (j * (i / 1)))) q g

    zero_plus_c : (x : Complex A) → plus_c o (zero_c o) x ≡ x
    zero_plus_c x = both o R (nought_plus o R x.re) (nought_plus o R x.im)

    begin : (zs : List A) → ((t : ℕ) → t < 480 → complex_at o zs t ≡ z t) → Done 1 480 zs
    unfolding sum_c
    begin zs same k p h g =
        let none : k ≡ 0 = omega arith in
        let here : 480 * k + p ≡ p = omega arith in
        let there : p + 480 * 0 ≡ p = omega arith in
        let flat : 2 * 480 * (0 * k) ≡ 0 = rw none in
        ap (λ (i : ℕ). complex_at o zs i) here ∙ same p g ∙ sym (times_one_c o R (z p))
        ∙ ap (λ (v : Complex A). z p ×ᶜ v) (sym (e_start o R c K) ∙ ap E (sym flat))
        ∙ ap (λ (i : ℕ). z i ×ᶜ E (2 * 480 * (0 * k))) (sym there)
        ∙ sym (zero_plus_c (z (p + 480 * 0) ×ᶜ E (2 * 480 * (0 * k))))

    pub whole : (zs : List A) → ((t : ℕ) → t < 480 → complex_at o zs t ≡ z t) → (k : ℕ) → k < 480
        → complex_at o (transformed o c zs) k ≡ sum_c o R 480 (λ t. z t ×ᶜ E (2 * (t * k)))
    unfolding transformed
    whole zs same k h =
        let y₁ = stage 96 (row5 o c zs) in
        let z₁ = stage 160 (row3 o c 32 y₁) in
        let y₂ = stage 120 (row4 o c 8 z₁) in
        let z₂ = stage 240 (row2 o c 4 y₂) in
        let d₁ : Done 5 96 y₁ = staged 5 96 1 plan5 (row5 o c zs) zs (begin zs same) (rows5 zs) in
        let d₂ : Done 15 32 z₁ = staged 3 32 5 plan3 (row3 o c 32 y₁) y₁ d₁ (rows3 y₁) in
        let d₃ : Done 60 8 y₂ = staged 4 8 15 plan4 (row4 o c 8 z₁) z₁ d₂ (rows4 z₁) in
        let d₄ : Done 120 4 z₂ = staged 2 4 60 plan2 (row2 o c 4 y₂) y₂ d₃ (rows2 y₂) in
        let d₅ : Done 480 1 (stage 120 (row4 o c 1 z₂)) = staged 4 1 120 plan1 (row4 o c 1 z₂) z₂ d₄ (rows1 z₂) in
        let at_k : k ≡ 1 * k + 0 = omega arith in
        ap (λ (i : ℕ). complex_at o (stage 120 (row4 o c 1 z₂)) i) at_k ∙ d₅ k 0 h (omega arith)
        ∙ sum_same o R 480 (λ t. z (0 + 1 * t) ×ᶜ E (2 * 1 * (t * k))) (λ t. z t ×ᶜ E (2 * (t * k)))
        (λ t b. let e₁ : 0 + 1 * t ≡ t = omega arith in ap (λ (i : ℕ). z i ×ᶜ E (2 * (t * k))) e₁)

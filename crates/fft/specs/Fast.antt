-- The 960-point real transforms through a complex transform of 480 numbers in five stages, with every operation in its
-- order. `c m` is the cosine of m/960 of a turn, so `c (m + 240)` is minus its sine. The complex numbers z[0] to z[479]
-- are a list of 960 numbers: their real parts, and then their imaginary parts.
use Rattle.std.specs.Prelude.{◌+◌, ◌-◌, ◌*◌, ◌/◌, ◌%◌}
use Rattle.rules.specs.Common.{ℕ, zero, suc, cond, List, eqb, ltb}
use Rattle.rules.specs.Tab.{tab}
use Rattle.fft.specs.Ops.{Ops, Complex, element_at}

-- The list of 480 complex numbers.
unfoldable pub complexes : {A : Type 0} → (ℕ → Complex A) → List A
complexes f = tab 960 (λ j. cond (ltb j 480) (f j).re (f (j - 480)).im)

-- Lane i of a stage joins r numbers that are m apart: r * m * k + p + m * j, with i = m * k + p. This is the place of
-- the first.
abbrev pub first : ℕ → ℕ → ℕ → ℕ
first r m i = r * m * (i / m) + i % m

-- The angle by which number j of a lane is turned, divided by j.
abbrev pub angle : ℕ → ℕ → ℕ
angle m i = 2 * m * (i / m)

-- What a stage of n lanes leaves: bin q of lane i goes to the place n * q + i.
abbrev pub stage : {A : Type 0} → ℕ → (ℕ → ℕ → Complex A) → List A
stage n row = complexes (λ j. row (j % n) (j / n))

module _ {A : Type 0} (o : Ops A) where
  infixl 65 ◌⊕◌ ◌⊖◌
  infixl 70 ◌⊗◌
  abbrev ◌⊕◌ : A → A → A
  x ⊕ y = o.plus x y

  abbrev ◌⊖◌ : A → A → A
  x ⊖ y = o.minus x y

  abbrev ◌⊗◌ : A → A → A
  x ⊗ y = o.times x y

  -- ---- complex numbers
  infixl 65 ◌+ᶜ◌ ◌-ᶜ◌ ◌+ⁱ◌ ◌-ⁱ◌
  infixl 70 ◌·◌
  -- The sum of two complex numbers.
  abbrev pub ◌+ᶜ◌ : Complex A → Complex A → Complex A
  x +ᶜ y = record { re = x.re ⊕ y.re; im = x.im ⊕ y.im }

  -- Their difference.
  abbrev pub ◌-ᶜ◌ : Complex A → Complex A → Complex A
  x -ᶜ y = record { re = x.re ⊖ y.re; im = x.im ⊖ y.im }

  -- x + i y.
  abbrev pub ◌+ⁱ◌ : Complex A → Complex A → Complex A
  x +ⁱ y = record { re = x.re ⊖ y.im; im = x.im ⊕ y.re }

  -- x - i y.
  abbrev pub ◌-ⁱ◌ : Complex A → Complex A → Complex A
  x -ⁱ y = record { re = x.re ⊕ y.im; im = x.im ⊖ y.re }

  -- A real number times a complex one.
  abbrev pub ◌·◌ : A → Complex A → Complex A
  a · y = record { re = a ⊗ y.re; im = a ⊗ y.im }

  -- Number i of a list of complex numbers.
  abbrev pub complex_at : List A → ℕ → Complex A
  complex_at xs i = record { re = element_at o xs i; im = element_at o xs (480 + i) }

  -- ---- what needs no cosine
  -- Bin k of the transform of two numbers.
  abbrev pub of_two : Complex A → Complex A → ℕ → Complex A
  of_two a b zero = a +ᶜ b
  of_two a b (suc k) = a -ᶜ b

  -- Bin k of the transform of four numbers.
  abbrev pub of_four : Complex A → Complex A → Complex A → Complex A → ℕ → Complex A
  of_four a b d e zero = a +ᶜ d +ᶜ (b +ᶜ e)
  of_four a b d e (suc zero) = a -ᶜ d -ⁱ (b -ᶜ e)
  of_four a b d e (suc (suc zero)) = a +ᶜ d -ᶜ (b +ᶜ e)
  of_four a b d e (suc (suc (suc k))) = a -ᶜ d +ⁱ (b -ᶜ e)

  -- Two samples as a complex number: the even one is the real part, the odd one the imaginary part.
  abbrev pub pair : List A → ℕ → Complex A
  pair x i = record { re = element_at o x (2 * i); im = element_at o x (2 * i + 1) }

  -- All samples like that, for the forward transform.
  unfoldable pub as_complex : List A → List A
  as_complex x = complexes (pair x)

  -- Bin k of a spectrum, for the inverse transform. Bins 0 and 480 are real.
  unfoldable pub bin_in : List A → ℕ → Complex A
  bin_in x k =
      cond (eqb k 0) (record { re = element_at o x 0; im = o.nought })
      (cond (eqb k 480) (record { re = element_at o x 959; im = o.nought })
      (record { re = element_at o x (2 * k - 1); im = element_at o x (2 * k) }))

  -- Sample n of the inverse transform. Its parts are swapped, so the even samples are imaginary parts.
  unfoldable pub sample_out : List A → ℕ → A
  sample_out z n = cond (eqb (n % 2) 0) (element_at o z (480 + n / 2)) (element_at o z (n / 2))

  module _ (c : ℕ → A) where
    -- x turned back by t/960 of a turn.
    abbrev pub turned_back : ℕ → Complex A → Complex A
    turned_back t x = record { re = x.re ⊗ c t ⊖ x.im ⊗ c (t + 240); im = x.re ⊗ c (t + 240) ⊕ x.im ⊗ c t }

    -- Bin k of the transform of three numbers.
    abbrev pub of_three : Complex A → Complex A → Complex A → ℕ → Complex A
    of_three a b d zero = a +ᶜ (b +ᶜ d)
    of_three a b d (suc zero) = a +ᶜ c 320 · (b +ᶜ d) +ⁱ c 560 · (b -ᶜ d)
    of_three a b d (suc (suc k)) = a +ᶜ c 320 · (b +ᶜ d) -ⁱ c 560 · (b -ᶜ d)

    -- Bin k of the transform of five numbers.
    abbrev pub of_five : Complex A → Complex A → Complex A → Complex A → Complex A → ℕ → Complex A
    of_five a b d e f zero = a +ᶜ (b +ᶜ f +ᶜ (d +ᶜ e))
    of_five a b d e f (suc zero) = a +ᶜ (c 192 · (b +ᶜ f) +ᶜ c 384 · (d +ᶜ e)) +ⁱ (c 432 · (b -ᶜ f) +ᶜ c 624 · (d -ᶜ e))
    of_five a b d e f (suc (suc zero)) =
        a +ᶜ (c 384 · (b +ᶜ f) +ᶜ c 192 · (d +ᶜ e)) +ⁱ (c 624 · (b -ᶜ f) -ᶜ c 432 · (d -ᶜ e))
    of_five a b d e f (suc (suc (suc zero))) =
        a +ᶜ (c 384 · (b +ᶜ f) +ᶜ c 192 · (d +ᶜ e)) -ⁱ (c 624 · (b -ᶜ f) -ᶜ c 432 · (d -ᶜ e))
    of_five a b d e f (suc (suc (suc (suc k)))) =
        a +ᶜ (c 192 · (b +ᶜ f) +ᶜ c 384 · (d +ᶜ e)) -ⁱ (c 432 · (b -ᶜ f) +ᶜ c 624 · (d -ᶜ e))

    -- ---- stages: bin q of lane i
    -- The first stage, in which nothing is turned.
    unfoldable pub row5 : List A → ℕ → ℕ → Complex A
    row5 xs i =
        of_five (complex_at xs i) (complex_at xs (i + 96)) (complex_at xs (i + 192)) (complex_at xs (i + 288))
        (complex_at xs (i + 384))

    -- Bin q of lane i in a stage of threes.
    unfoldable pub row3 : ℕ → List A → ℕ → ℕ → Complex A
    row3 m xs i =
        of_three (complex_at xs (first 3 m i)) (turned_back (angle m i) (complex_at xs (first 3 m i + m)))
        (turned_back (2 * angle m i) (complex_at xs (first 3 m i + 2 * m)))

    -- Bin q of lane i in a stage of fours.
    unfoldable pub row4 : ℕ → List A → ℕ → ℕ → Complex A
    row4 m xs i =
        of_four (complex_at xs (first 4 m i)) (turned_back (angle m i) (complex_at xs (first 4 m i + m)))
        (turned_back (2 * angle m i) (complex_at xs (first 4 m i + 2 * m)))
        (turned_back (3 * angle m i) (complex_at xs (first 4 m i + 3 * m)))

    -- Bin q of lane i in a stage of twos.
    unfoldable pub row2 : ℕ → List A → ℕ → ℕ → Complex A
    row2 m xs i = of_two (complex_at xs (first 2 m i)) (turned_back (angle m i) (complex_at xs (first 2 m i + m)))

    -- The five stages: 480 = 5 * 3 * 4 * 2 * 4.
    unfoldable pub transformed : List A → List A
    transformed z =
        stage 120 (row4 1 (stage 240 (row2 4 (stage 120 (row4 8 (stage 160 (row3 32 (stage 96 (row5 z)))))))))

    -- ---- forward
    -- The transform of the even samples, from bins a = k and b = 480 - k of the pairs. (c 160 is a half.)
    abbrev pub even : Complex A → Complex A → Complex A
    even a b = c 160 · record { re = a.re ⊕ b.re; im = a.im ⊖ b.im }

    -- The transform of the odd samples.
    abbrev pub odd : Complex A → Complex A → Complex A
    odd a b = c 160 · record { re = a.im ⊕ b.im; im = b.re ⊖ a.re }

    -- Bin k of all samples.
    abbrev pub split : ℕ → Complex A → Complex A → Complex A
    split k a b = even a b +ᶜ turned_back k (odd a b)

    -- Bin k of a spectrum.
    unfoldable pub bin_out : List A → ℕ → Complex A
    bin_out z k = split k (complex_at z (k % 480)) (complex_at z ((480 - k) % 480))

    -- Number j of a spectrum.
    unfoldable pub number_out : List A → ℕ → A
    number_out z j =
        cond (eqb j 0) (element_at o z 0 ⊕ element_at o z 480)
        (cond (eqb (j % 2) 1) (bin_out z ((j + 1) / 2)).re (bin_out z (j / 2)).im)

    -- The forward transform.
    unfoldable pub forward_over : List A → List A
    forward_over x = tab 961 (number_out (transformed (as_complex x)))

    -- ---- inverse
    -- Bin k of the pairs, from bins a = k and b = 480 - k of the samples. Its parts are swapped, so that the stages of
    -- the forward transform can be used.
    abbrev pub merged : ℕ → Complex A → Complex A → Complex A
    merged k a b = record {
      re = a.im ⊖ b.im ⊕ ((a.re ⊖ b.re) ⊗ c k ⊕ (a.im ⊕ b.im) ⊗ c (k + 240));
      im = a.re ⊕ b.re ⊕ ((a.re ⊖ b.re) ⊗ c (k + 240) ⊖ (a.im ⊕ b.im) ⊗ c k);
    }

    -- The same from a spectrum.
    abbrev pub merged_at : List A → ℕ → Complex A
    merged_at x k = merged k (bin_in x k) (bin_in x (480 - k))

    -- All of them.
    unfoldable pub merged_of : List A → List A
    merged_of x = complexes (merged_at x)

    -- The inverse transform.
    unfoldable pub inverse_over : List A → List A
    inverse_over x = tab 960 (sample_out (transformed (merged_of x)))

-- The plain sums of `transforms`, with any operations and cosines. With the operations of f32 and its table they are
-- the definitions of `transforms` (specs/Laws).
use Rattle.std.specs.Prelude.{◌+◌, ◌-◌, ◌*◌, ◌%◌}
use Rattle.rules.specs.Common.{ℕ, List}
use Rattle.rules.specs.Loop.{loop, range}
use Rattle.rules.specs.Tab.{tab}
use Rattle.rules.specs.Spectrum.{bin_of}
use Rattle.transforms.specs.Transform.{part_of}
use Rattle.fft.specs.Ops.{Ops, element_at}

module _ {A : Type 0} (o : Ops A) (c : ℕ → A) where
  infixl 65 ◌⊕◌
  infixl 70 ◌⊗◌
  abbrev ◌⊕◌ : A → A → A
  x ⊕ y = o.plus x y

  abbrev ◌⊗◌ : A → A → A
  x ⊗ y = o.times x y

  -- The cosine (r = 0) or minus the sine (r = 240) of k * n / 960 of a turn.
  abbrev cosine_at : ℕ → ℕ → ℕ → A
  cosine_at k n r = c ((k * n + r) % 960)

  -- Bin k: its real part for r = 0, its imaginary part for r = 240.
  abbrev pub plain_bin : List A → ℕ → ℕ → A
  plain_bin x k r = loop 960 (λ n sum. sum ⊕ element_at o x n ⊗ cosine_at k n r) o.nought

  -- The forward transform.
  unfoldable pub plain_forward : List A → List A
  plain_forward x = tab 961 (λ j. plain_bin x (bin_of j) (part_of j))

  -- Adds bin k, twice, to sample n.
  abbrev pub plain_step : List A → ℕ → ℕ → A → A
  plain_step x n k sum =
      sum ⊕ o.two ⊗ element_at o x (2 * k - 1) ⊗ cosine_at n k 0 ⊕ o.two ⊗ element_at o x (2 * k) ⊗ cosine_at n k 240

  -- Sample n.
  abbrev pub plain_sample : List A → ℕ → A
  plain_sample x n =
      range 1 480 (plain_step x n) (o.nought ⊕ element_at o x 0) ⊕ element_at o x (2 * 480 - 1) ⊗ cosine_at n 480 0

  -- The inverse transform.
  unfoldable pub plain_inverse : List A → List A
  plain_inverse x = tab 960 (plain_sample x)

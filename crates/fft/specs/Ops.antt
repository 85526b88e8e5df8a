-- The operations that a transform is made of. The same definitions are used with f32, where each operation rounds, and
-- with any commutative ring, where they are exact.
use Rattle.rules.specs.Common.{ℕ, List, get_or}

-- The operations.
pub record Ops (A : Type 0) : Type 0 where
  -- Addition.
  pub plus : A → A → A
  -- Subtraction.
  pub minus : A → A → A
  -- Multiplication.
  pub times : A → A → A
  -- 0.
  pub nought : A
  -- 2.
  pub two : A
  -- What a list gives after its end, where no code reads.
  pub beyond : A

-- A complex number.
pub record Complex (A : Type 0) : Type 0 where
  -- Its real part.
  pub re : A
  -- Its imaginary part.
  pub im : A

-- Number i of a list.
abbrev pub element_at : {A : Type 0} → Ops A → List A → ℕ → A
element_at o xs i = get_or xs i o.beyond

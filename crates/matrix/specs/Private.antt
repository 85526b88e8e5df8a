-- For the contracts of private functions: the sums of a multiply-add one by one, and sixteen of them side by side.
use Rattle.std.specs.Prelude.{◌+◌, ◌*◌, ◌/◌, ◌%◌, ◌≤◌, ◌≡◌}
use Rattle.rules.specs.Common.{ℕ, List, length, set, Float}
use Rattle.rules.specs.Loop.{loop}
use Rattle.rules.specs.F32.{◌⊕◌, ◌⊗◌, at, nat_at}
use Rattle.matrix.specs.Sums.{of_byte, MulAddFits}
use Rattle.matrix.specs.declared.lanes.Four.{Four}
use Rattle.matrix.specs.declared.lanes.Sixteen.{Sixteen}

-- A word and its four bytes, the lowest first.
pub record Bytes (word b0 b1 b2 b3 : ℕ) : Type 0 where
  pub first : word % 256 ≡ b0
  pub second : word / 256 % 256 ≡ b1
  pub third : word / 65536 % 256 ≡ b2
  pub fourth : word / 16777216 ≡ b3

-- A sum, plus the weight at a place times an input.
abbrev pub added_at : List ℕ → ℕ → Float → Float → Float
added_at weights place x a = a ⊕ of_byte (nat_at weights place) ⊗ x

-- The same for four neighbouring sums.
unfoldable pub plus_four : List ℕ → ℕ → Float → Four → Four
plus_four weights place x s =
    record {
      a = added_at weights place x s.a;
      b = added_at weights (place + 1) x s.b;
      c = added_at weights (place + 2) x s.c;
      d = added_at weights (place + 3) x s.d;
    }

-- The same for sixteen neighbouring sums.
unfoldable pub plus_sixteen : List ℕ → ℕ → Float → Sixteen → Sixteen
unfolding plus_four
plus_sixteen weights place x t =
    record {
      p = plus_four weights place x t.p;
      q = plus_four weights (place + 4) x t.q;
      r = plus_four weights (place + 8) x t.r;
      s = plus_four weights (place + 12) x t.s;
    }

-- Sixteen sums over the first n inputs, in order.
unfoldable pub sixteen_sums : List ℕ → ℕ → ℕ → List Float → ℕ → Sixteen → Sixteen
unfolding plus_sixteen loop
sixteen_sums weights stride place input n t = loop n (λ i. plus_sixteen weights (i * stride + place) (at input i)) t

-- Four neighbouring numbers.
unfoldable pub four_at : List Float → ℕ → Four
four_at out place = record { a = at out place; b = at out (place + 1); c = at out (place + 2); d = at out (place + 3) }

-- Sixteen neighbouring numbers.
unfoldable pub sixteen_at : List Float → ℕ → Sixteen
unfolding four_at
sixteen_at out place =
    record {
      p = four_at out place;
      q = four_at out (place + 4);
      r = four_at out (place + 8);
      s = four_at out (place + 12);
    }

-- Stores four neighbouring numbers.
unfoldable pub store_four : List Float → ℕ → Float → Float → Float → Float → List Float
store_four xs place a b c d = set (set (set (set xs place a) (place + 1) b) (place + 2) c) (place + 3) d

-- Sum j of `mul_add`.
unfoldable pub neuron : List Float → List ℕ → ℕ → ℕ → List Float → ℕ → Float
unfolding loop
neuron out weights stride offset input j =
    loop (length input) (λ i. added_at weights (i * stride + offset + j) (at input i)) (at out j)

-- Where sum i is kept at first: in its block of sixteen the sums are ordered by the byte of the word that their weights
-- are read from.
abbrev pub spot : ℕ → ℕ
spot i = i / 16 * 16 + i % 4 * 4 + i % 16 / 4

-- Each row has sixteen bytes at this place.
pub record Rows (weights stride place input : ℕ) : Type 0 where
  pub inside : place + 16 ≤ stride
  pub whole : weights ≡ stride * input

-- The lengths fit, and sixteen divides the number of sums.
pub record Blocks (kept out weights stride offset input : ℕ) : Type 0 where
  pub places : kept ≡ out
  pub even : out % 16 ≡ 0
  pub fits : MulAddFits out weights stride offset input

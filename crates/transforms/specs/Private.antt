-- For the contracts of private functions: how the sums are shared. The indices k, 240 * i + k and 240 * i - k have the
-- same products except for their signs. So eight sums are kept at a time, and each for four neighbours.
use Rattle.std.specs.Prelude.{◌+◌, ◌-◌, ◌*◌, ◌/◌, ◌%◌, ◌∷◌, ◌≡◌}
use Rattle.rules.specs.Common.{ℕ, cond, List, [], eqb, get_or, take, Float}
use Rattle.rules.specs.Loop.{loop, range}
use Rattle.rules.specs.Tab.{tab}
use Rattle.rules.specs.F32.{◌⊕◌, ◌⊖◌, at, f32}
use Rattle.transforms.specs.Transform.{forward_step, inverse_step, sample}
use Rattle.transforms.specs.declared.lanes.Four.{Four}
use Rattle.transforms.specs.declared.lanes.Sums.{Sums}

-- ---- four neighbours
-- A number for each of four neighbours.
abbrev pub four_of : (ℕ → Float) → ℕ → Four
four_of f k = record { a = f k; b = f (k + 1); c = f (k + 2); d = f (k + 3) }

-- An operation on each of the four.
abbrev pub both : (Float → Float → Float) → Four → Four → Four
both op x y = record { a = op x.a y.a; b = op x.b y.b; c = op x.c y.c; d = op x.d y.d }

-- The cosines of one and a quarter turns, so that the place a quarter further needs no remainder.
abbrev pub extended : List Float → List Float
extended c = tab 1200 (λ i. at c (i % 960))

-- The next term of the sums s, w quarters further. p are the products at the place itself, and q those a quarter
-- further.
unfoldable pub plus_term : ℕ → Four → Four → Four → Four
plus_term w s p q =
    cond (eqb (w % 4) 0) (both ◌⊕◌ s p)
    (cond (eqb (w % 4) 1) (both ◌⊕◌ s q) (cond (eqb (w % 4) 2) (both ◌⊖◌ s p) (both ◌⊖◌ s q)))

-- ---- lanes: the index that lies k ahead of i quarters of the turn, or k back from there
-- An index that is k after i quarters of the turn, or k before.
pub data Lane : Type 0 where
  ahead back : ℕ → Lane

-- This index.
abbrev pub index : Lane → ℕ → ℕ
index (ahead i) k = 240 * i + k
index (back i) k = 240 * i - k

-- How many quarters further a lane's term is, j terms after a multiple of 4; r is 1 for an imaginary part. There are i
-- quarters for each term. A place before w quarters has the cosine that is w quarters before the place itself, which is
-- 3 * w quarters further.
abbrev pub quarters : Lane → ℕ → ℕ → ℕ
quarters (ahead i) j r = i * j + r
quarters (back i) j r = 3 * (i * j + r)

-- ---- eight sums of each of the four: sum s of k is f s k
-- Eight sums of each of the four: sum s of k is f s k.
unfoldable pub sums_of : (ℕ → ℕ → Float) → ℕ → Sums
sums_of f k =
    let of : ℕ → Four = λ s. four_of (f s) k in
    record { s0 = of 0; s1 = of 1; s2 = of 2; s3 = of 3; s4 = of 4; s5 = of 5; s6 = of 6; s7 = of 7 }

-- The next term of each sum.
unfoldable pub plus_terms : (ℕ → Lane) → (ℕ → ℕ) → ℕ → Sums → Four → Four → Sums
plus_terms lane part j s p q =
    let of : ℕ → Four → Four = λ i a. plus_term (quarters (lane i) j (part i)) a p q in
    record {
      s0 = of 0 s.s0;
      s1 = of 1 s.s1;
      s2 = of 2 s.s2;
      s3 = of 3 s.s3;
      s4 = of 4 s.s4;
      s5 = of 5 s.s5;
      s6 = of 6 s.s6;
      s7 = of 7 s.s7;
    }

-- The sum that is kept at i.
abbrev pub kept : (ℕ → ℕ → Float) → ℕ → Float
kept f i = f (i % 32 / 4) (i / 32 * 4 + i % 4)

-- A list keeps the sums up to n.
pub record Keeps (f : ℕ → ℕ → Float) (n : ℕ) (xs : List Float) : Type 0 where
  pub front : take n xs ≡ tab n (kept f)

-- ---- forward: the bins k, 480 - k, 240 + k and 240 - k, each with its two parts; sum s after n terms
-- The lane of sum s.
abbrev pub bin_lane : ℕ → Lane
bin_lane s = get_or (ahead 0 ∷ back 2 ∷ ahead 1 ∷ back 1 ∷ []) (s / 2) (ahead 0)

-- Sum s after n terms.
abbrev pub bin_part : List Float → ℕ → ℕ → ℕ → Float
bin_part x n s k = loop n (forward_step x (index (bin_lane s) k) (240 * (s % 2))) (f32 0)

-- ---- inverse: the samples n, 960 - n, 480 + n, 480 - n, 240 + n, 240 - n, 720 + n and 720 - n; sum s before bin k,
--      and with all bins
-- The lane of sum s.
abbrev pub sample_lane : ℕ → Lane
sample_lane s = get_or (ahead 0 ∷ back 4 ∷ ahead 2 ∷ back 2 ∷ ahead 1 ∷ back 1 ∷ ahead 3 ∷ back 3 ∷ []) s (ahead 0)

-- Sum s before bin k.
abbrev pub sample_part : List Float → ℕ → ℕ → ℕ → Float
sample_part x k s n = range 1 k (inverse_step x (index (sample_lane s) n)) (f32 0 ⊕ at x 0)

-- Sum s with all bins.
abbrev pub whole_part : List Float → ℕ → ℕ → Float
whole_part x s n = sample x (index (sample_lane s) n)

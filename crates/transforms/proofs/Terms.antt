-- One law over the lane: what the code adds to a sum or takes from it is the sum's own next term. A lane of i quarters
-- is i * n quarters on at term n, so that only the remainder by 4 counts. Then a step of the eight sums, forward and
-- inverse. Assumes nothing.
use Rattle.std.specs.Prelude.{◌+◌, ◌-◌, ◌*◌, ◌/◌, ◌%◌, ◌≤◌, ◌<◌, ◌≡◌}
use Rattle.rules.proofs.Common.{ℕ, zero, suc, Bool, true, List, refl, sym, ◌∙◌}
use Rattle.rules.proofs.Common.{ltb, T, Float, binary32}
use native.Mathlib.Nat.{add-mul, mul-add, mul_assoc, mul_left_comm}
use native.Mathlib.Omega.{arith}
use lib.Dec.{ltb→lt}
use lib.Ieee.{fits}
use Rattle.rules.specs.F32.{◌⊕◌, ◌⊖◌, ◌⊗◌, at, f32, two}
use Rattle.rules.specs.Loop.{loop, range}
use Rattle.rules.proofs.Tests.{at_each}
use Rattle.rules.proofs.Loops.{more, range_more}
use Rattle.transforms.specs.Cosine.{cosine}
use Rattle.transforms.specs.Transform.{wave, forward_step, inverse_step}
use Rattle.transforms.specs.Private.{four_of, both, plus_term, Lane, ahead, back, index, quarters, sums_of}
use Rattle.transforms.specs.Private.{plus_terms, bin_lane, bin_part, sample_lane, sample_part}
use Rattle.transforms.specs.Private.{whole_part}
use Rattle.transforms.specs.declared.lanes.Four.{Four}
use Rattle.transforms.specs.declared.lanes.Sums.{Sums}
use Rattle.floats.specs.Plain.{plain}
use Rattle.transforms.proofs.Quarters.{same, mirror, half}
use Rattle.transforms.proofs.Sound.{Sound, sound_add, sound_forward, sound_inverse}

pub four_same : (f g : ℕ → Float) (k : ℕ) → ((i : ℕ) → i ≤ k + 3 → f i ≡ g i) → four_of f k ≡ four_of g k
four_same f g k h =
    let a = h k (omega arith) in
    let b = h (k + 1) (omega arith) in
    let c = h (k + 2) (omega arith) in
    let d = h (k + 3) (omega arith) in
    cc

-- ---- a term counts by its quarters' remainder
module _ (w : ℕ) (s p q : Four) where
  none_on : w % 4 ≡ 0 → both ◌⊕◌ s p ≡ plus_term w s p q
  unfolding plus_term
  none_on e = rw e

  one_on : w % 4 ≡ 1 → both ◌⊕◌ s q ≡ plus_term w s p q
  unfolding plus_term
  one_on e = rw e

  two_on : w % 4 ≡ 2 → both ◌⊖◌ s p ≡ plus_term w s p q
  unfolding plus_term
  two_on e = rw e

  three_on : w % 4 ≡ 3 → both ◌⊖◌ s q ≡ plus_term w s p q
  unfolding plus_term
  three_on e = rw e

  pub by_rest : (u : ℕ) → w % 4 ≡ u % 4 → plus_term w s p q ≡ plus_term u s p q
  unfolding plus_term
  by_rest u e = rw e

-- ---- for four neighbours: the products of v, at term n and a quarter on
module _ (v : Float) (k n : ℕ) where
  abbrev products : ℕ → Four
  products r = both ◌⊗◌ (four_of (λ i. v) 0) (four_of (λ i. wave i n r) k)

  -- w quarters on is where g's term is
  term_right : (w : ℕ) (f g : ℕ → Float) (place : ℕ → ℕ) → ((i : ℕ) → T (plain (f i)))
      → ((i : ℕ) → i ≤ k + 3 → (i * n + 240 * w) % 960 ≡ place i % 960)
      → ((i : ℕ) → i ≤ k + 3 → f i ⊕ v ⊗ at cosine (place i % 960) ≡ g i)
      → plus_term w (four_of f k) (products 0) (products 240) ≡ four_of g k
  term_right w f g place plains there terms = go (w % 4) refl
    where
      go : (t : ℕ) → w % 4 ≡ t → plus_term w (four_of f k) (products 0) (products 240) ≡ four_of g k
      go zero e =
          sym (none_on w _ _ _ e) ∙ four_same _ g k
          (λ i b. same (f i) v (i * n + 0) (place i) (omega (arith, there i b)) ∙ terms i b)
      go (suc zero) e =
          sym (one_on w _ _ _ e) ∙ four_same _ g k
          (λ i b. same (f i) v (i * n + 240) (place i) (omega (arith, there i b)) ∙ terms i b)
      go (suc (suc zero)) e =
          sym (two_on w _ _ _ e) ∙ four_same _ g k
          (λ i b. half (f i) v (i * n + 0) (place i) (plains i) (omega (arith, there i b)) ∙ terms i b)
      go (suc (suc (suc zero))) e =
          sym (three_on w _ _ _ e)
          ∙ four_same _ g k (λ i b. half (f i) v (i * n + 240) (place i) (plains i) (omega (arith, there i b))
          ∙ terms i b)
      go (suc (suc (suc (suc t)))) e = absurd (omega arith)

-- ---- lanes that don't begin before index 0
abbrev grounded : Lane → Bool
grounded (ahead i) = true
grounded (back i) = ltb 0 i

module _ (v : Float) (k n j : ℕ) (small : k < 124) (e : n % 4 ≡ j) where
  -- the terms up to n are i * n quarters, as many as the last j but for whole turns
  turns : (i r : ℕ) → (m : ℕ) × (i * n + r ≡ 4 * m + (i * j + r))
  turns i r =
      let split : n ≡ 4 * (n / 4) + j = omega arith in
      (i * (n / 4), omega (arith, rw (← split) at (mul-add i (4 * (n / 4)) j), mul_left_comm i 4 (n / 4)))

  lane_right : (l : Lane) (r : ℕ) (f g : ℕ → Float) → T (grounded l) → ((i : ℕ) → T (plain (f i)))
      → ((i : ℕ) → f i ⊕ v ⊗ wave (index l i) n (240 * r) ≡ g i)
      → plus_term (quarters l j r) (four_of f k) (products v k n 0) (products v k n 240) ≡ four_of g k
  lane_right (ahead i) r f g o plains terms =
      term_right v k n (i * j + r) f g (λ m. (240 * i + m) * n + 240 * r) plains
      (λ m b. omega (arith, (turns i r).1, add-mul (240 * i) m n, mul_assoc 240 i n)) (λ m b. terms m)
  lane_right (back i) r f g o plains terms =
      let some = ltb→lt 0 i o in
      let there : ℕ → ℕ = λ m. m * n + 240 * (3 * (i * j + r)) in
      term_right v k n (3 * (i * j + r)) f g there plains (λ m b. refl)
      (λ m b. let whole : 240 * i - m + m ≡ 240 * i = omega arith in
      mirror (f m) v (there m) ((240 * i - m) * n + 240 * r)
      (omega (arith, (turns i r).1, rw whole at (add-mul (240 * i - m) m n), mul_assoc 240 i n)) ∙ terms m)

-- ---- for the eight sums: from f to g by one term each
pub eight_same : {a b c d e f g h a' b' c' d' e' f' g' h' : Four} → a ≡ a' → b ≡ b' → c ≡ c' → d ≡ d' → e ≡ e' → f ≡ f'
    → g ≡ g' → h ≡ h'
    → ◌≡◌ {A = Sums} (record { s0 = a; s1 = b; s2 = c; s3 = d; s4 = e; s5 = f; s6 = g; s7 = h })
    (record { s0 = a'; s1 = b'; s2 = c'; s3 = d'; s4 = e'; s5 = f'; s6 = g'; s7 = h' })
eight_same p q r s t u v w = cc

-- by what the calls ensure: c and d are the cosines read
stepped : (lane : ℕ → Lane) (part : ℕ → ℕ) → ((t : ℕ) → t < 8 → T (grounded (lane t))) → (v : Float) (k n j : ℕ)
    → k < 124 → n % 4 ≡ j
    → (f g : ℕ → ℕ → Float) → ((t i : ℕ) → T (plain (f t i)))
    → ((t i : ℕ) → f t i ⊕ v ⊗ wave (index (lane t) i) n (240 * part t) ≡ g t i)
    → {s r : Sums} {c d p q : Four} → s ≡ sums_of f k → c ≡ four_of (λ i. wave i n 0) k
    → d ≡ four_of (λ i. wave i n 240) k
    → p ≡ both ◌⊗◌ (four_of (λ i. v) 0) c → q ≡ both ◌⊗◌ (four_of (λ i. v) 0) d → r ≡ plus_terms lane part j s p q
    → r ≡ sums_of g k
unfolding plus_terms sums_of
stepped lane part grounds v k n j small e f g plains terms now read-c read-d times-c times-d plus =
    plus
    ∙ rw (times-c, times-d, read-c, read-d, now)
    (eight_same (next 0 (omega arith)) (next 1 (omega arith)) (next 2 (omega arith)) (next 3 (omega arith))
    (next 4 (omega arith)) (next 5 (omega arith)) (next 6 (omega arith)) (next 7 (omega arith)))
  where
    next : (t : ℕ) → t < 8 → plus_term (quarters (lane t) j (part t)) (four_of (f t) k) (products v k n 0)
        (products v k n 240) ≡ four_of (g t) k
    next t h = lane_right v k n j small e (lane t) (part t) (f t) (g t) (grounds t h) (plains t) (terms t)

-- ---- forward
pub bin_stepped : (x : List Float) (k n j : ℕ) → k < 124 → n % 4 ≡ j → {s r : Sums} {c d p q : Four}
    → s ≡ sums_of (bin_part x n) k
    → c ≡ four_of (λ i. wave i n 0) k → d ≡ four_of (λ i. wave i n 240) k → p ≡ both ◌⊗◌ (four_of (λ i. at x n) 0) c
    → q ≡ both ◌⊗◌ (four_of (λ i. at x n) 0) d
    → r ≡ plus_terms bin_lane (λ i. i % 2) j s p q → r ≡ sums_of (bin_part x (n + 1)) k
bin_stepped x k n j small e =
    stepped bin_lane (λ i. i % 2) (at_each 8 (λ t. grounded (bin_lane t)) tt) (at x n) k n j small e (bin_part x n)
    (bin_part x (n + 1))
    (λ t i. (sound_forward x (index (bin_lane t) i) (240 * (t % 2)) n).is_plain)
    (λ t i. more (forward_step x (index (bin_lane t) i) (240 * (t % 2))) (f32 0) n refl refl)

-- ---- inverse
module _ (x : List Float) (held : T (fits binary32 (at x 0))) (n : ℕ) (small : n < 124) where
  -- the sums before bin k, with its real part, too
  abbrev half_part : ℕ → ℕ → ℕ → Float
  half_part k s i = sample_part x k s i ⊕ two ⊗ at x (2 * k - 1) ⊗ wave (index (sample_lane s) i) k 0

  sound : (k l i : ℕ) → Sound (sample_part x k l i)
  sound k l i = sound_inverse x (index (sample_lane l) i) k held

  grounds : (t : ℕ) → t < 8 → T (grounded (sample_lane t))
  grounds = at_each 8 (λ t. grounded (sample_lane t)) tt

  pub sample_stepped : (k j : ℕ) {s h r : Sums} {c d p q t u : Four} → k % 4 ≡ j → s ≡ sums_of (sample_part x k) n
      → c ≡ four_of (λ i. wave i k 0) n → d ≡ four_of (λ i. wave i k 240) n → 0 < k
      → p ≡ both ◌⊗◌ (four_of (λ i. two ⊗ at x (2 * k - 1)) 0) c
      → q ≡ both ◌⊗◌ (four_of (λ i. two ⊗ at x (2 * k - 1)) 0) d → h ≡ plus_terms sample_lane (λ i. 0) j s p q
      → t ≡ both ◌⊗◌ (four_of (λ i. two ⊗ at x (2 * k)) 0) c → u ≡ both ◌⊗◌ (four_of (λ i. two ⊗ at x (2 * k)) 0) d
      → r ≡ plus_terms sample_lane (λ i. 1) j h t u
      → r ≡ sums_of (sample_part x (k + 1)) n
  sample_stepped k j {h = h} e now read-c read-d o times-c times-d first more-c more-d second =
      let half : h ≡ sums_of (half_part k) n =
      stepped sample_lane (λ i. 0) grounds (two ⊗ at x (2 * k - 1)) n k j small e (sample_part x k) (half_part k)
      (λ l i. (sound k l i).is_plain) (λ l i. refl) now read-c read-d times-c times-d first in
      stepped sample_lane (λ i. 1) grounds (two ⊗ at x (2 * k)) n k j small e (half_part k) (sample_part x (k + 1))
      (λ l i. (sound_add (sample_part x k l i) (two ⊗ at x (2 * k - 1)) (wave (index (sample_lane l) i) k 0)
      (sound k l i)).is_plain)
      (λ l i. range_more (inverse_step x (index (sample_lane l) i)) (f32 0 ⊕ at x 0) 1 k o refl refl) half read-c read-d
      more-c more-d second

  pub last_stepped : {s r : Sums} {c d p q : Four} → s ≡ sums_of (sample_part x 480) n
      → c ≡ four_of (λ i. wave i 480 0) n
      → d ≡ four_of (λ i. wave i 480 240) n
      → p ≡ both ◌⊗◌ (four_of (λ i. at x 959) 0) c → q ≡ both ◌⊗◌ (four_of (λ i. at x 959) 0) d
      → r ≡ plus_terms sample_lane (λ i. 0) 0 s p q → r ≡ sums_of (whole_part x) n
  last_stepped =
      stepped sample_lane (λ i. 0) grounds (at x 959) n 480 0 small refl (sample_part x 480) (whole_part x)
      (λ l i. (sound 480 l i).is_plain) (λ l i. refl)

-- ---- where a run begins
pub forward_start : (x : List Float) (k : ℕ) → sums_of (λ s i. f32 0) 0 ≡ sums_of (bin_part x 0) k
unfolding sums_of loop
forward_start x k = refl

pub inverse_start : (x : List Float) (n : ℕ) → sums_of (λ s i. f32 0 ⊕ at x 0) 0 ≡ sums_of (sample_part x 1) n
unfolding sums_of range loop
inverse_start x n = refl

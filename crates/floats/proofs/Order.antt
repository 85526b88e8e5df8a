-- The order of floats, for all of them: where one is NaN there is none.
--     not-lt, lt-asym       of two that compare equal, neither is below the other; what is above the other is not below
--                           it
--     even, not-below       of two numbers of which neither is below the other, they compare equal; what is not below
--                           is at least the other
--     itself, le_refl       a number compares equal to itself, and is at most itself
--     le_trans              `le` goes on from one to the next
--     product-mono          a rounded product by a factor above zero keeps it
-- Assumes nothing.
use mathlib.Core.Path.{◌≡◌, refl, sym, ◌∙◌, subst}
use mathlib.Core.Bool.{Bool, true, false, not, ◌&&◌, ◌||◌, beq, not-not, or-true, false≢true}
use mathlib.Core.Logic.{◌⊎◌, inl, inr}
use Prim.Native.Nat.{ℕ, zero, suc, ◌+◌, ◌*◌, ◌≤◌, ◌<◌}
use native.Mathlib.Nat.{le_of_lt, le_of_eq, eq-or-lt_of_le, eq_of_mul-eq-mul_right, mul-mul-mul_comm, mul-le-mul_left}
use native.Mathlib.Nat.{mul-pos, zero-mul, mul-zero}
use native.Mathlib.Omega.{arith}
use lib.Dec.{T, eqb, ltb, eqb-suc-zero, eqb→eq, ltb→lt, lt→ltb}
use lib.IntN.{ℤ}
use lib.Ieee.{Float, nan, inf, fin, Format, up, down, unlike, below, level, neg, round, mul, lt, eq, le, is_nan}
use lib.Ieee.Bits.{is_true}
use lib.Ieee.Exact.{HasValue}
use lib.Ieee.Fits.{and_i, and_l, and_r, eq→eqb, down_pos}
use lib.Ieee.Order.{round_mono}
use lib.Ieee.Positive.{through}
use borrow.Author.Tests.{le-ltb, ltb-true, ltb-false, eq-eqb}
use Rattle.floats.proofs.Rounded.{rounded, zero_rounds}
use Rattle.floats.proofs.Signs.{neg_round}

-- ---- equal, below, above

level_apart : (s : Bool) (a : ℕ) (t : Bool) (b : ℕ) → level s a t b ≡ true
    → (below s a t b ≡ false) × (below t b s a ≡ false)
level_apart s a t b h =
    let says : T (level s a t b) = subst T (sym h) tt in
    go s t (eqb→eq a b (and_l (eqb a b) (beq s t || eqb a 0) says))
    (and_r (eqb a b) (beq s t || eqb a 0) says)
  where
    go : (s t : Bool) → a ≡ b → T (beq s t || eqb a 0) → (below s a t b ≡ false) × (below t b s a ≡ false)
    go false false e z = (le-ltb a b (omega arith), le-ltb b a (omega arith))
    go true true e z = (le-ltb b a (omega arith), le-ltb a b (omega arith))
    go false true e z = (refl, le-ltb 0 (b + a) (omega (arith, eqb→eq a 0 z)))
    go true false e z = (le-ltb 0 (a + b) (omega (arith, eqb→eq a 0 z)), refl)

pub not_lt : (x y : Float) → eq x y ≡ true → (is_nan x ≡ false) × (lt x y ≡ false) × (lt y x ≡ false)
unfolding is_nan lt eq
not_lt nan y h = absurd (false≢true h)
not_lt (inf s) nan h = absurd (false≢true h)
not_lt (inf true) (inf true) h = (refl, refl, refl)
not_lt (inf true) (inf false) h = absurd (false≢true h)
not_lt (inf false) (inf true) h = absurd (false≢true h)
not_lt (inf false) (inf false) h = (refl, refl, refl)
not_lt (inf s) (fin t n d) h = absurd (false≢true h)
not_lt (fin s m e) nan h = absurd (false≢true h)
not_lt (fin s m e) (inf t) h = absurd (false≢true h)
not_lt (fin s m e) (fin t n d) h = let k = level_apart s (m * up e * down d) t (n * up d * down e) h in
    (refl, k.0, k.1)

above_apart : (s : Bool) (a : ℕ) (t : Bool) (b : ℕ) → below t b s a ≡ true → below s a t b ≡ false
above_apart false a false b h = le-ltb a b (omega (arith, ltb-true b a h))
above_apart false a true b h = refl
above_apart true a false b h = absurd (false≢true h)
above_apart true a true b h = le-ltb b a (omega (arith, ltb-true a b h))

pub lt_asym : (x y : Float) → lt y x ≡ true → (is_nan x ≡ false) × (lt x y ≡ false)
unfolding is_nan lt
lt_asym x nan h = absurd (false≢true h)
lt_asym nan (inf t) h = absurd (false≢true h)
lt_asym nan (fin t n d) h = absurd (false≢true h)
lt_asym (inf true) (inf true) h = absurd (false≢true h)
lt_asym (inf true) (inf false) h = absurd (false≢true h)
lt_asym (inf false) (inf t) h = (refl, refl)
lt_asym (inf true) (fin t n d) h = absurd (false≢true h)
lt_asym (inf false) (fin t n d) h = (refl, refl)
lt_asym (fin s m e) (inf true) h = (refl, refl)
lt_asym (fin s m e) (inf false) h = absurd (false≢true h)
lt_asym (fin s m e) (fin t n d) h = (refl, above_apart s (m * up e * down d) t (n * up d * down e) h)

-- where neither is below the other they compare equal
as_high : (s : Bool) (a : ℕ) (t : Bool) (b : ℕ) → below s a t b ≡ false → below t b s a ≡ false → level s a t b ≡ true
as_high false a false b h k = let same : a ≡ b = omega (arith, ltb-false a b h, ltb-false b a k) in rw (eq-eqb a b same)
as_high true a true b h k = let same : a ≡ b = omega (arith, ltb-false b a h, ltb-false a b k) in rw (eq-eqb a b same)
as_high false a true b h k =
    let none : b + a ≡ 0 = omega (arith, ltb-false 0 (b + a) k) in
    rw (eq-eqb a b (omega arith), eq-eqb a 0 (omega arith))
as_high true a false b h k =
    let none : a + b ≡ 0 = omega (arith, ltb-false 0 (a + b) h) in
    rw (eq-eqb a b (omega arith), eq-eqb a 0 (omega arith))

pub even : (x y : Float) → is_nan x ≡ false → is_nan y ≡ false → lt x y ≡ false → lt y x ≡ false → eq x y ≡ true
unfolding is_nan lt eq
even nan y p q h k = absurd (false≢true (sym p))
even (inf s) nan p q h k = absurd (false≢true (sym q))
even (fin s m e) nan p q h k = absurd (false≢true (sym q))
even (inf true) (inf true) p q h k = refl
even (inf false) (inf false) p q h k = refl
even (inf true) (inf false) p q h k = absurd (false≢true (sym h))
even (inf false) (inf true) p q h k = absurd (false≢true (sym k))
even (inf true) (fin t n d) p q h k = absurd (false≢true (sym h))
even (inf false) (fin t n d) p q h k = absurd (false≢true (sym k))
even (fin s m e) (inf false) p q h k = absurd (false≢true (sym h))
even (fin s m e) (inf true) p q h k = absurd (false≢true (sym k))
even (fin s m e) (fin t n d) p q h k = as_high s (m * up e * down d) t (n * up d * down e) h k

pub itself : (x : Float) → is_nan x ≡ false → eq x x ≡ true
itself x p = go (lt x x) refl
  where
    go : (b : Bool) → lt x x ≡ b → eq x x ≡ true
    go false h = even x x p p h h
    go true h = absurd (false≢true (sym (lt_asym x x h).1 ∙ h))

pub not_below : (x y : Float) → is_nan x ≡ false → is_nan y ≡ false → lt x y ≡ false → le y x ≡ true
unfolding le
not_below x y p q h = go (lt y x) refl
  where
    go : (b : Bool) → lt y x ≡ b → (lt y x || eq y x) ≡ true
    go true k = rw k
    go false k = rw (even y x q p k h) (or-true (lt y x))

pub le_refl : (x : Float) → is_nan x ≡ false → le x x ≡ true
unfolding le
le_refl x p = rw (itself x p) (or-true (lt x x))

-- ---- the order as one of signed fractions

-- ±a is at most ±b
abbrev Under : Bool → ℕ → Bool → ℕ → Type 0
Under false a false b = a ≤ b
Under true a true b = b ≤ a
Under true a false b = Unit
Under false a true b = (a ≡ 0) × (b ≡ 0)

abbrev AtMost : Float → Float → Type 0
AtMost nan y = ⊥
AtMost (inf s) nan = ⊥
AtMost (inf true) (inf t) = Unit
AtMost (inf true) (fin t n d) = Unit
AtMost (inf false) (inf true) = ⊥
AtMost (inf false) (inf false) = Unit
AtMost (inf false) (fin t n d) = ⊥
AtMost (fin s m e) nan = ⊥
AtMost (fin s m e) (inf true) = ⊥
AtMost (fin s m e) (inf false) = Unit
AtMost (fin s m e) (fin t n d) = Under s (m * up e * down d) t (n * up d * down e)

either : (a b : Bool) → T (a || b) → T a ⊎ T b
either true b t = inl tt
either false b t = inr t

or_l : (a b : Bool) → T a → T (a || b)
or_l true b t = tt
or_l false b t = absurd t

or_r : (a b : Bool) → T b → T (a || b)
or_r true b t = tt
or_r false b t = t

under : (s : Bool) (a : ℕ) (t : Bool) (b : ℕ) → T (below s a t b || level s a t b) → Under s a t b
under false a false b h =
    elim (either (ltb a b) (eqb a b && true) h)
    [ inl u ↦ le_of_lt (ltb→lt a b u) | inr u ↦ le_of_eq (eqb→eq a b (and_l (eqb a b) true u)) ]
under true a true b h =
    elim (either (ltb b a) (eqb a b && true) h)
    [ inl u ↦ le_of_lt (ltb→lt b a u) | inr u ↦ le_of_eq (sym (eqb→eq a b (and_l (eqb a b) true u))) ]
under true a false b h = tt
under false a true b h =
    let zero : a ≡ 0 = eqb→eq a 0 (and_r (eqb a b) (eqb a 0) h) in
    (zero, sym (eqb→eq a b (and_l (eqb a b) (eqb a 0) h)) ∙ zero)

most : (x y : Float) → T (le x y) → AtMost x y
unfolding le
most nan y h = absurd h
most (inf true) nan h = absurd h
most (inf false) nan h = absurd h
most (inf true) (inf t) h = tt
most (inf true) (fin t n d) h = tt
most (inf false) (inf true) h = absurd h
most (inf false) (inf false) h = tt
most (inf false) (fin t n d) h = absurd h
most (fin s m e) nan h = absurd h
most (fin s m e) (inf true) h = absurd h
most (fin s m e) (inf false) h = tt
most (fin s m e) (fin t n d) h = under s (m * up e * down d) t (n * up d * down e) h

ordered : (s : Bool) (a : ℕ) (t : Bool) (b : ℕ) → Under s a t b → T (below s a t b || level s a t b)
ordered false a false b h =
    elim (eq-or-lt_of_le h) [
      | inl e ↦ or_r (ltb a b) (eqb a b && true) (and_i (eqb a b) true (eq→eqb e) tt)
      | inr l ↦ or_l (ltb a b) (eqb a b && true) (lt→ltb a b l)
    ]
ordered true a true b h =
    elim (eq-or-lt_of_le h) [
      | inl e ↦ or_r (ltb b a) (eqb a b && true) (and_i (eqb a b) true (eq→eqb (sym e)) tt)
      | inr l ↦ or_l (ltb b a) (eqb a b && true) (lt→ltb b a l)
    ]
ordered true zero false zero h = tt
ordered true zero false (suc b) h = or_l (ltb 0 (0 + suc b)) _ (lt→ltb 0 (0 + suc b) (omega arith))
ordered true (suc a) false b h = or_l (ltb 0 (suc a + b)) _ (lt→ltb 0 (suc a + b) (omega arith))
ordered false a true b h = and_i (eqb a b) (eqb a 0) (eq→eqb (h.0 ∙ sym h.1)) (eq→eqb h.0)

is_le : (x y : Float) → AtMost x y → T (le x y)
unfolding le
is_le nan y h = absurd h
is_le (inf true) nan h = absurd h
is_le (inf false) nan h = absurd h
is_le (inf true) (inf true) h = tt
is_le (inf true) (inf false) h = tt
is_le (inf true) (fin t n d) h = tt
is_le (inf false) (inf true) h = absurd h
is_le (inf false) (inf false) h = tt
is_le (inf false) (fin t n d) h = absurd h
is_le (fin s m e) nan h = absurd h
is_le (fin s m e) (inf true) h = absurd h
is_le (fin s m e) (inf false) h = tt
is_le (fin s m e) (fin t n d) h = ordered s (m * up e * down d) t (n * up d * down e) h

-- ---- transitivity

none : (n u : ℕ) → 0 < u → n * u ≡ 0 → n ≡ 0
none n u h e = eq_of_mul-eq-mul_right u h n 0 (e ∙ sym (zero-mul u))

-- x / p ≤ y / q ≤ z / r, with their signs
under_trans : (s t u : Bool) (x y z p q r : ℕ) → 0 < p → 0 < q → 0 < r → Under s (x * q) t (y * p)
    → Under t (y * r) u (z * q) → Under s (x * r) u (z * p)
under_trans false false false x y z p q r P Q R h k = through x y z p q r Q h k
under_trans true true true x y z p q r P Q R h k = through z y x r q p Q k h
under_trans true t false x y z p q r P Q R h k = tt
under_trans true false true x y z p q r P Q R h k = let z₀ = none z q Q k.1 in rw (z₀, zero-mul p) (omega arith)
under_trans false true false x y z p q r P Q R h k = let x₀ = none x q Q h.0 in rw (x₀, zero-mul r) (omega arith)
under_trans false false true x y z p q r P Q R h k =
    let y₀ = none y r R k.0 in
    let z₀ = none z q Q k.1 in
    let x₀ = none x q Q (let b : x * q ≤ 0 * p = rw y₀ at h in omega (arith, zero-mul p)) in
    rw (x₀, z₀) (zero-mul r, zero-mul p)
under_trans false true true x y z p q r P Q R h k =
    let x₀ = none x q Q h.0 in
    let y₀ = none y p P h.1 in
    let z₀ = none z q Q (let b : z * q ≤ 0 * r = rw y₀ at k in omega (arith, zero-mul r)) in
    rw (x₀, z₀) (zero-mul r, zero-mul p)

-- nothing but an infinity is above it, and every number is above the other
top : (y : Float) → AtMost (inf false) y → y ≡ inf false
top nan h = absurd h
top (inf true) h = absurd h
top (inf false) h = refl
top (fin t n d) h = absurd h

lowest : (x y : Float) → AtMost x y → AtMost (inf true) y
lowest nan y h = absurd h
lowest (inf s) nan h = absurd h
lowest (inf s) (inf t) h = tt
lowest (inf s) (fin t n d) h = tt
lowest (fin s m e) nan h = absurd h
lowest (fin s m e) (inf t) h = tt
lowest (fin s m e) (fin t n d) h = tt

most_trans : (x y z : Float) → AtMost x y → AtMost y z → AtMost x z
most_trans nan y z h k = absurd h
most_trans (inf true) y z h k = lowest y z k
most_trans (inf false) y z h k = rw (top y h) at k
most_trans (fin s m e) nan z h k = absurd h
most_trans (fin s m e) (inf true) z h k = absurd h
most_trans (fin s m e) (inf false) z h k = rw (top z k) tt
most_trans (fin s m e) (fin t n d) nan h k = absurd k
most_trans (fin s m e) (fin t n d) (inf true) h k = absurd k
most_trans (fin s m e) (fin t n d) (inf false) h k = tt
most_trans (fin s m e) (fin t n d) (fin u l c) h k =
    under_trans s t u (m * up e) (n * up d) (l * up c) (down e) (down d) (down c) (down_pos e) (down_pos d)
    (down_pos c) h k

-- ---- what is rounded

above_lowest : (f : Format) (s : Bool) (a b : ℕ) → AtMost (inf true) (round f s a b)
above_lowest f s = rounded f s (AtMost (inf true)) tt (λ m e. tt)

below_top : (f : Format) (s : Bool) (a b : ℕ) → AtMost (round f s a b) (inf false)
below_top f true = rounded f true (λ x. AtMost x (inf false)) tt (λ m e. tt)
below_top f false = rounded f false (λ x. AtMost x (inf false)) tt (λ m e. tt)

across : (f : Format) (a b c d : ℕ) → AtMost (round f true a b) (round f false c d)
across f a b c d =
    rounded f true (λ x. AtMost x (round f false c d)) (above_lowest f false c d)
    (λ m e. rounded f false (AtMost (fin true m e)) tt (λ n g. tt) c d) a b

-- the other sign turns it
under_turned : (s : Bool) (a : ℕ) (t : Bool) (b : ℕ) → Under s a t b → Under (not t) b (not s) a
under_turned false a false b h = h
under_turned true a true b h = h
under_turned true a false b h = tt
under_turned false a true b h = (h.1, h.0)

most_turned : (x y : Float) → AtMost x y → AtMost (neg y) (neg x)
unfolding neg
most_turned nan y h = absurd h
most_turned (inf s) nan h = absurd h
most_turned (fin s m e) nan h = absurd h
most_turned (inf true) (inf true) h = tt
most_turned (inf true) (inf false) h = tt
most_turned (inf true) (fin t n d) h = tt
most_turned (inf false) (inf true) h = absurd h
most_turned (inf false) (inf false) h = tt
most_turned (inf false) (fin t n d) h = absurd h
most_turned (fin s m e) (inf true) h = absurd h
most_turned (fin s m e) (inf false) h = tt
most_turned (fin s m e) (fin t n d) h = under_turned s (m * up e * down d) t (n * up d * down e) h

-- zeros of any sign
zeros : (x y : Float) (b d : ℕ) → 0 < b → 0 < d → HasValue x false 0 b → HasValue y true 0 d → AtMost x y
zeros nan y b d B D h k = absurd h
zeros (inf s) y b d B D h k = absurd h
zeros (fin s m e) nan b d B D h k = absurd k
zeros (fin s m e) (inf t) b d B D h k = absurd k
zeros (fin s m e) (fin t n c) b d B D h k =
    let x₀ = none (m * up e) b B (h.1 ∙ zero-mul (down e)) in
    let y₀ = none (n * up c) d D (k.1 ∙ zero-mul (down c)) in
    rw (h.0, k.0, x₀, y₀) (zero-mul (down c), zero-mul (down e))

-- ±a / b at most ±c / d, rounded
round_order : (f : Format) (s t : Bool) (a b c d : ℕ) → 0 < b → 0 < d → Under s (a * d) t (c * b)
    → AtMost (round f s a b) (round f t c d)
round_order f false false a b c d B D h = most (round f false a b) (round f false c d) (round_mono f a b c d B D h)
round_order f true true a b c d B D h =
    rw (neg_round f false a b, neg_round f false c d)
    (most_turned (round f false c d) (round f false a b) (most _ _ (round_mono f c d a b D B h)))
round_order f true false a b c d B D h = across f a b c d
round_order f false true a b c d B D h =
    let a₀ = none a d D h.0 in
    let c₀ = none c b B h.1 in
    rw (
      a₀,
      c₀,
    ) (zeros (round f false 0 b) (round f true 0 d) b d B D (zero_rounds f false b B) (zero_rounds f true d D))

-- ---- a product by a factor above zero

module _ (f : Format) (k : ℕ) (w : ℤ) where
  abbrev factor : Float
  factor = fin false (suc k) w

  -- the factor goes into both sizes
  scaled : (s t : Bool) (x y p q : ℕ) → Under s (x * q) t (y * p)
      → Under s (suc k * up w * x * (down w * q)) t (suc k * up w * y * (down w * p))
  scaled s t x y p q h =
      rw (mul-mul-mul_comm (suc k * up w) x (down w) q, mul-mul-mul_comm (suc k * up w) y (down w) p) (times s t h)
    where
      g : ℕ
      g = suc k * up w * down w

      times : (s t : Bool) → Under s (x * q) t (y * p) → Under s (g * (x * q)) t (g * (y * p))
      times false false h = mul-le-mul_left g h
      times true true h = mul-le-mul_left g h
      times true false h = tt
      times false true h = rw (h.0, h.1) (mul-zero g, mul-zero g)

  product : (x y : Float) → AtMost x y → AtMost (mul f factor x) (mul f factor y)
  unfolding mul
  product nan y h = absurd h
  product (inf s) nan h = absurd h
  product (fin s m e) nan h = absurd h
  product (inf true) (inf t) h = rw (eqb-suc-zero k) tt
  product (inf true) (fin t n d) h = rw (eqb-suc-zero k) (above_lowest f (unlike false t) _ _)
  product (inf false) (inf true) h = absurd h
  product (inf false) (inf false) h = rw (eqb-suc-zero k) tt
  product (inf false) (fin t n d) h = absurd h
  product (fin s m e) (inf true) h = absurd h
  product (fin s m e) (inf false) h = rw (eqb-suc-zero k) (below_top f (unlike false s) _ _)
  product (fin s m e) (fin t n d) h =
      rw (not-not s, not-not t)
      (round_order f s t (suc k * up w * (m * up e)) (down w * down e) (suc k * up w * (n * up d)) (down w * down d)
      (mul-pos (down_pos w) (down_pos e)) (mul-pos (down_pos w) (down_pos d))
      (scaled s t (m * up e) (n * up d) (down e) (down d) h))

-- ---- as equations

pub le_trans : (x y z : Float) → le x y ≡ true → le y z ≡ true → le x z ≡ true
le_trans x y z h k = is_true _ (is_le x z (most_trans x y z (most x y (rw h tt)) (most y z (rw k tt))))

pub product_mono : (f : Format) (k : ℕ) (w : ℤ) (x y : Float) → le x y ≡ true
    → le (mul f (fin false (suc k) w) x) (mul f (fin false (suc k) w) y) ≡ true
product_mono f k w x y h = is_true _ (is_le _ _ (product f k w x y (most x y (rw h tt))))

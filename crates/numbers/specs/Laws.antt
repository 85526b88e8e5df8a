-- What is claimed of the numbers. The proofs are in proofs/Larger, proofs/NarrowCorrect and proofs/RootCorrect.
use Rattle.rules.specs.Common.{ℕ, zero, suc, Bool, true, false, cond, Float}
use Rattle.rules.specs.Common.{binary32, nan, inf, fin, lt}
use Rattle.rules.specs.Common.{is_nan, up, down, round}
use Rattle.std.specs.Bool.{beq}
use Rattle.std.specs.Prelude.{T, ℤ, ◌≢◌, ◌+◌, ◌-◌, ◌*◌, ◌%◌, ◌^◌, ◌≤◌, ◌<◌, ◌≡◌}
use Rattle.std.specs.Float.{Format}
use Rattle.std.specs.Float.Ieee.{prec, low, fits, eq}
use Rattle.std.specs.Float.Ieee.Exact.{HasValue}
use Rattle.std.specs.Float.Ieee.Scale.{overflow}
use Rattle.numbers.specs.Larger.{larger, smaller}
use Rattle.numbers.specs.Narrowed.{narrowed}
use Rattle.numbers.specs.Root.{root}

-- ---- the larger and the smaller of two

-- The cases of `maximumNumber` of IEEE 754-2019 (request 06). In either order the results compare equal.
pub record IsMaximum : Type 0 where
  -- If one is a NaN, the other.
  pub of_nan : (x : Float) → (larger nan x ≡ x) × (larger x nan ≡ x)
  -- If the left one is lower, the right one.
  pub of_less : (x y : Float) → lt x y ≡ true → larger x y ≡ y
  -- If the right one is lower, the left one.
  pub of_more : (x y : Float) → lt y x ≡ true → larger x y ≡ x
  -- Of two zeros with different signs, +0.
  pub of_zeros : (e d : ℤ)
      → (larger (fin true zero e) (fin false zero d) ≡ fin false zero d)
      × (larger (fin false zero e) (fin true zero d) ≡ fin false zero e)
  -- In either order the results compare equal.
  pub either_order : (x y : Float) → is_nan x ≡ false → is_nan y ≡ false → eq (larger x y) (larger y x) ≡ true

-- The cases of Rust's `min`: if one is a NaN the other, then the lower one, and if both compare equal the left one.
pub record IsMinimum : Type 0 where
  -- If one is a NaN, the other.
  pub of_nan : (x : Float) → (smaller nan x ≡ x) × (smaller x nan ≡ x)
  -- If the left one is lower, the left one.
  pub of_less : (x y : Float) → lt x y ≡ true → smaller x y ≡ x
  -- If the right one is lower, the right one.
  pub of_more : (x y : Float) → lt y x ≡ true → smaller x y ≡ y
  -- If they compare equal, the left one.
  pub of_equal : (x y : Float) → eq x y ≡ true → smaller x y ≡ x

-- ---- rounding

-- q has at most p binary digits, and exactly p if k digits after them were dropped.
abbrev pub KeptDigits : ℕ → ℕ → ℕ → Type 0
KeptDigits p q k = (q ≤ 2 ^ p) × (0 < k → 2 ^ (p - 1) ≤ q)

-- The distance of two whole numbers.
abbrev pub gap : ℕ → ℕ → ℕ
gap a b = a - b + (b - a)

-- The distance of ±a and ±b, whose signs are s and t.
abbrev pub distance : Bool → ℕ → Bool → ℕ → ℕ
distance s a t b = cond (beq s t) (gap a b) (a + b)

-- y is ±Y times the smallest value of the format, 2^-low. An infinity stands for 2^(emax + 1), which is `overflow`
-- times that value.
abbrev pub Stands : Format → Float → Bool → ℕ → Type 0
Stands f nan s Y = ⊥
Stands f (inf t) s Y = (t ≡ s) × (Y ≡ overflow f)
Stands f (fin t m e) s Y = HasValue (fin t m e) s Y (2 ^ low f)

-- y is the value of the format f that is nearest to ±num / den. If two are equally near, it is the one whose last digit
-- is even. Distances are in units of 2^-low / den.
pub record Nearest (f : Format) (s : Bool) (num den : ℕ) (y : Float) : Type 0 where
  -- y in units of 2^-low.
  pub Y : ℕ
  -- Its digits, with the last one in the unit's place.
  pub q : ℕ
  -- How many digits were dropped after them.
  pub k : ℕ
  -- y is a value of the format.
  pub held : T (fits f y)
  -- Y and y are the same number.
  pub stands : Stands f y s Y
  -- The digits are as many as the format has.
  pub digits : (Y ≡ q * 2 ^ k) × KeptDigits (prec f) q k
  -- No value of the format is nearer.
  pub nearest : (z : Float) (t : Bool) (Z : ℕ) → T (fits f z) → Stands f z t Z
      → distance s (num * 2 ^ low f) s (Y * den) ≤ distance s (num * 2 ^ low f) t (Z * den)
  -- If another value is equally near, the last digit of y is even.
  pub even : (z : Float) (t : Bool) (Z : ℕ) → T (fits f z) → Stands f z t Z
      → distance s (num * 2 ^ low f) s (Y * den) ≡ distance s (num * 2 ^ low f) t (Z * den)
      → (Z ≢ Y) → q % 2 ≡ 0

-- `round` gives the nearest value for every fraction, in either format.
abbrev pub RoundsRight : Type 0
RoundsRight = (f : Format) (s : Bool) (num den : ℕ) → 0 < den → Nearest f s num den (round f s num den)

-- `narrowed` gives the nearest f32 for every finite f64. (A NaN and an infinity stay, by the definition.)
abbrev pub NarrowsRight : Type 0
NarrowsRight = (s : Bool) (m : ℕ) (e : ℤ) → Nearest binary32 s (m * up e) (down e) (narrowed (fin s m e))

-- ---- the root

-- In terms of squares: the root of n is at least as near to Y as to Z; and if it is equally near to both, q is even.
pub record HalfWay (n q Y Z : ℕ) : Type 0 where
  -- If Z is above Y, the root is not above the middle of both.
  pub above : Y < Z → (4 * n ≤ (Y + Z) * (Y + Z)) × (4 * n ≡ (Y + Z) * (Y + Z) → q % 2 ≡ 0)
  -- If Z is below Y, the root is not below the middle of both.
  pub below : Z < Y → ((Y + Z) * (Y + Z) ≤ 4 * n) × ((Y + Z) * (Y + Z) ≡ 4 * n → q % 2 ≡ 0)

-- y is the value of the format f that is nearest to the root of x, a value above zero. x is n units of 2^-(2 * low),
-- and y is Y units of 2^-low, with the digits q.
pub record NearestRoot (f : Format) (x y : Float) : Type 0 where
  -- x in units of 2^-(2 * low).
  pub n : ℕ
  -- y in units of 2^-low.
  pub Y : ℕ
  -- The digits of y, with the last one in the unit's place.
  pub q : ℕ
  -- How many digits were dropped after them.
  pub k : ℕ
  -- y is a value of the format.
  pub held : T (fits f y)
  -- n and x are the same number.
  pub x_is : HasValue x false n (2 ^ low f * 2 ^ low f)
  -- Y and y are the same number.
  pub y_is : HasValue y false Y (2 ^ low f)
  -- The digits are as many as the format has.
  pub digits : (Y ≡ q * 2 ^ k) × (2 ^ (prec f - 1) ≤ q) × (q ≤ 2 ^ prec f)
  -- No value of the format is nearer to the root.
  pub nearest : (z : Float) (Z : ℕ) → T (fits f z) → HasValue z false Z (2 ^ low f) → HalfWay n q Y Z

-- `root` gives the nearest value for every value above zero, in either format. (The root of a zero is that zero, by the
-- definition.)
abbrev pub RootIsRight : Type 0
RootIsRight =
    (f : Format) (m : ℕ) (e : ℤ)
    → let x = fin false (suc m) e in
    T (fits f x) → NearestRoot f x (root f x)

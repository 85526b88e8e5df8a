-- A number and its four bytes. Assumes nothing.
use Rattle.std.specs.Prelude.{◌+◌, ◌*◌, ◌/◌, ◌%◌, ◌<◌, ◌∷◌, ◌++◌, ◌≡◌}
use Rattle.rules.proofs.Common.{ℕ, List, [], sym, ap, ◌∙◌}
use native.Mathlib.Nat.{add-zero, div-div-eq-div-mul}
use native.Mathlib.Omega.{arith}
use Rattle.sheet.specs.Sheet.{four}
use Rattle.sheet.specs.End.{from_four}

chain : (n q₁ q₂ q₃ q₄ r₀ r₁ r₂ r₃ : ℕ) → n ≡ 256 * q₁ + r₀ → q₁ ≡ 256 * q₂ + r₁ → q₂ ≡ 256 * q₃ + r₂
    → q₃ ≡ 256 * q₄ + r₃
    → r₀ + 256 * r₁ + 65536 * r₂ + 16777216 * r₃ + 4294967296 * q₄ ≡ n
chain n q₁ q₂ q₃ q₄ r₀ r₁ r₂ r₃ a b c d = omega arith

next : (n k : ℕ) → n / k ≡ 256 * (n / (k * 256)) + n / k % 256
next n k = rw (← div-div-eq-div-mul n k 256) (omega arith)

-- a number is its four bytes and what is above them
pub digits : (n : ℕ) → n % 256 + 256 * (n / 256 % 256) + 65536 * (n / 65536 % 256) + 16777216 * (n / 16777216 % 256)
    + 4294967296 * (n / 4294967296) ≡ n
digits n =
    chain n (n / 256) (n / 65536) (n / 16777216) (n / 4294967296) _ _ _ _ (omega arith) (next n 256) (next n 65536)
    (next n 16777216)

low : (m n : ℕ) → m + 4294967296 * (n / 4294967296) ≡ n → m ≡ n % 4294967296
low m n e = omega arith

small : (n : ℕ) → n % 256 < 256
small n = omega arith

pub four_read : (n : ℕ) (rest : List ℕ) → from_four (four n ++ rest) ≡ n % 4294967296
unfolding from_four four
four_read n rest = low _ _ (digits n)

-- four bytes are those of their number, whatever is above it
module _ (a b c d k : ℕ) (ha : a < 256) (hb : b < 256) (hc : c < 256) (hd : d < 256) where
  pub four_of_lem : four (a + 256 * b + 65536 * c + 16777216 * d + 4294967296 * k) ≡ a ∷ b ∷ c ∷ d ∷ []
  unfolding four
  four_of_lem =
      let n = a + 256 * b + 65536 * c + 16777216 * d + 4294967296 * k in
      let q₁ = b + 256 * c + 65536 * d + 16777216 * k in
      let q₂ = c + 256 * d + 65536 * k in
      let q₃ = d + 256 * k in
      let one : n / 256 ≡ q₁ = omega arith in
      let two : n / 65536 ≡ q₂ = sym (div-div-eq-div-mul n 256 256) ∙ ap (λ (m : ℕ). m / 256) one ∙ omega arith in
      let three : n / 16777216 ≡ q₃ =
      sym (div-div-eq-div-mul n 65536 256) ∙ ap (λ (m : ℕ). m / 256) two ∙ omega arith in
      let r₀ : n % 256 ≡ a = omega arith in
      let r₁ : q₁ % 256 ≡ b = omega arith in
      let r₂ : q₂ % 256 ≡ c = omega arith in
      let r₃ : q₃ % 256 ≡ d = omega arith in
      rw (r₀, one, two, three, r₁, r₂, r₃)

  pub above : (a + 256 * b + 65536 * c + 16777216 * d + 4294967296 * k) / 4294967296 ≡ k
  above = omega arith

pub four_mod : (n : ℕ) → four (n % 4294967296) ≡ four n
unfolding four
four_mod n =
    let m = n % 256 + 256 * (n / 256 % 256) + 65536 * (n / 65536 % 256) + 16777216 * (n / 16777216 % 256) in
    ap four (sym (low m n (digits n)) ∙ sym (add-zero m))
    ∙ four_of_lem _ _ _ _ 0 (small n) (small (n / 256)) (small (n / 65536)) (small (n / 16777216))

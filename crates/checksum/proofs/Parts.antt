-- A checksum in parts. Assumes nothing.
use Rattle.std.specs.Prelude.{◌+◌, ◌*◌, ◌/◌, ◌%◌, ◌≤◌, ◌<◌, ◌∷◌, ◌++◌, ◌≡◌}
use Rattle.rules.proofs.Common.{ℕ, zero, suc, List, [], refl}
use Rattle.rules.proofs.Common.{length, get_or, drop}
use native.Mathlib.Numerals.{add-one}
use native.Mathlib.Omega.{arith}
use lib.Arith.{bin_ind}
use lib.Bits.{bit_xor, differ, xor_step, xor_self}
use lib.ListN.{drop_of_length-le}
use lib.Seq.{drop-cons}
use Rattle.checksum.specs.Checksum.{table, crc, inverted, crc32}
use Rattle.checksum.specs.Laws.{InParts}

-- ---- inverted twice

digit : (x y : ℕ) → x < 2 → y < 2 → (differ x y < 2) × (differ (differ x y) y ≡ x)
digit zero zero h k = (omega arith, refl)
digit zero (suc zero) h k = (omega arith, refl)
digit zero (suc (suc y)) h k = absurd (omega arith)
digit (suc zero) zero h k = (omega arith, refl)
digit (suc zero) (suc zero) h k = (omega arith, refl)
digit (suc zero) (suc (suc y)) h k = absurd (omega arith)
digit (suc (suc x)) y h k = absurd (omega arith)

pub xor_twice : (a b : ℕ) → bit_xor (bit_xor a b) b ≡ a
xor_twice = bin_ind (λ (n : ℕ). (b : ℕ) → bit_xor (bit_xor n b) b ≡ n) xor_self turn
  where
    turn : (n : ℕ) → ((b : ℕ) → bit_xor (bit_xor (n / 2) b) b ≡ n / 2) → (b : ℕ) → bit_xor (bit_xor n b) b ≡ n
    turn n ih b =
        let d = digit (n % 2) (b % 2) (omega arith) (omega arith) in
        let low = differ (n % 2) (b % 2) in
        let high = bit_xor (n / 2) (b / 2) in
        let half : (high * 2 + low) / 2 ≡ high = omega arith in
        let odd : (high * 2 + low) % 2 ≡ low = omega arith in
        rw (xor_step (bit_xor n b) b, xor_step n b, half, odd, ih (b / 2), d.1) (omega arith)

-- ---- the register goes on

pub crc_append : (c : ℕ) (xs ys : List ℕ) → crc c (xs ++ ys) ≡ crc (crc c xs) ys
unfolding crc
crc_append c [] ys = refl
crc_append c (x ∷ xs) ys = crc_append (bit_xor (get_or table (bit_xor c x % 256) 0) (c / 256)) xs ys

pub in_parts : InParts
unfolding crc32
in_parts before xs ys = rw (xor_twice (crc (inverted before) xs) 0xFFFFFFFF, crc_append (inverted before) xs ys)

-- ---- a register that a loop moves on, byte by byte

module _ (bytes : List ℕ) where
  pub crc_more : (c i : ℕ) → i < length bytes
      → crc c (drop i bytes) ≡ crc (bit_xor (get_or table (bit_xor c (get_or bytes i 0) % 256) 0) (c / 256))
      (drop (i + 1) bytes)
  unfolding crc
  crc_more c i h = rw (add-one, drop-cons bytes i 0 h)

  pub crc_ended : (c i : ℕ) → length bytes ≤ i → crc c (drop i bytes) ≡ c
  unfolding crc
  crc_ended c i h = rw (drop_of_length-le bytes {i = i} h)

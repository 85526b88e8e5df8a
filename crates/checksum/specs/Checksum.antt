-- CRC-32 as zip (APPNOTE 4.4.7) and PNG (annex D) define it: reflected, with the polynomial EDB88320, inverted at the
-- start and at the end.
use Rattle.std.specs.Prelude.{◌/◌, ◌%◌, ◌∷◌}
use Rattle.rules.specs.Common.{ℕ, cond, List, [], eqb, get_or}
use Rattle.std.specs.Int.Bits.{bit_xor}
use Rattle.rules.specs.Loop.{loop}
use Rattle.rules.specs.Tab.{tab}

-- Shifts one bit out. Rust: if c & 1 { 0xEDB88320 ^ (c >> 1) } else { c >> 1 }.
abbrev pub step : ℕ → ℕ
step c = cond (eqb (c % 2) 1) (bit_xor 0xEDB88320 (c / 2)) (c / 2)

-- What eight such steps make of each byte.
unfoldable pub table : List ℕ
table = tab 256 (λ byte. loop 8 (λ k. step) byte)

-- The register after some bytes. Rust: for byte in bytes { c = table[(c ^ byte) & 0xFF] ^ (c >> 8) }.
unfoldable pub crc : ℕ → List ℕ → ℕ
crc c [] = c
crc c (byte ∷ bytes) = crc (bit_xor (get_or table (bit_xor c byte % 256) 0) (c / 256)) bytes

-- All 32 bits inverted.
abbrev pub inverted : ℕ → ℕ
inverted c = bit_xor c 0xFFFFFFFF

-- The checksum of some bytes. `before` is the checksum of the bytes that come before them: 0 if there are none.
unfoldable pub crc32 : ℕ → List ℕ → ℕ
crc32 before bytes = inverted (crc (inverted before) bytes)

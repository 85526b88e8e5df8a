-- A register that goes through the same bytes as another stays apart from it. Assumes nothing.
--     small        a register, and a checksum, has 32 bits
--     same_end     of bytes that end alike, the checksums are equal only where those of what stands in front are
--     burst_seen   of bytes that differ in at most four neighbours, they are never equal
use Rattle.std.specs.Prelude.{◌+◌, ◌-◌, ◌*◌, ◌/◌, ◌%◌, ◌^◌, ◌≤◌, ◌<◌, ◌∷◌, ◌++◌, ◌≡◌}
use Rattle.rules.proofs.Common.{ℕ, suc, Bool, List, [], refl}
use Rattle.rules.proofs.Common.{sym, ap, ◌∙◌, eqb, ltb, length, get_or}
use mathlib.Core.List.{append_assoc}
use native.Mathlib.Nat.{div-div-eq-div-mul}
use lib.Pow.{pow-add}
use native.Mathlib.Omega.{arith}
use lib.Bits.{bit_xor, xor_lt, xor_shr, xor_mod, xor_comm, xor_zero_r}
use lib.Dec.{eqb→eq, ltb→lt}
use Rattle.rules.specs.Lists.{Bytes}
use Rattle.rules.specs.Loop.{loop}
use Rattle.rules.specs.Tab.{tab}
use Rattle.rules.proofs.Tests.{at_each}
use Rattle.checksum.specs.Checksum.{table, crc, inverted, crc32}
use Rattle.checksum.specs.Laws.{Small, SameEnd, BurstSeen}
use Rattle.checksum.proofs.Parts.{xor_twice, crc_append}

-- ---- the table

-- which entry starts with a byte
tops : List ℕ
tops =
    0 ∷ 65 ∷ 195 ∷ 130 ∷ 134 ∷ 199 ∷ 69 ∷ 4 ∷ 77 ∷ 12 ∷ 142 ∷ 207 ∷ 203 ∷ 138 ∷ 8 ∷ 73 ∷
    154 ∷ 219 ∷ 89 ∷ 24 ∷ 28 ∷ 93 ∷ 223 ∷ 158 ∷ 215 ∷ 150 ∷ 20 ∷ 85 ∷ 81 ∷ 16 ∷ 146 ∷ 211 ∷
    117 ∷ 52 ∷ 182 ∷ 247 ∷ 243 ∷ 178 ∷ 48 ∷ 113 ∷ 56 ∷ 121 ∷ 251 ∷ 186 ∷ 190 ∷ 255 ∷ 125 ∷ 60 ∷
    239 ∷ 174 ∷ 44 ∷ 109 ∷ 105 ∷ 40 ∷ 170 ∷ 235 ∷ 162 ∷ 227 ∷ 97 ∷ 32 ∷ 36 ∷ 101 ∷ 231 ∷ 166 ∷
    234 ∷ 171 ∷ 41 ∷ 104 ∷ 108 ∷ 45 ∷ 175 ∷ 238 ∷ 167 ∷ 230 ∷ 100 ∷ 37 ∷ 33 ∷ 96 ∷ 226 ∷ 163 ∷
    112 ∷ 49 ∷ 179 ∷ 242 ∷ 246 ∷ 183 ∷ 53 ∷ 116 ∷ 61 ∷ 124 ∷ 254 ∷ 191 ∷ 187 ∷ 250 ∷ 120 ∷ 57 ∷
    159 ∷ 222 ∷ 92 ∷ 29 ∷ 25 ∷ 88 ∷ 218 ∷ 155 ∷ 210 ∷ 147 ∷ 17 ∷ 80 ∷ 84 ∷ 21 ∷ 151 ∷ 214 ∷
    5 ∷ 68 ∷ 198 ∷ 135 ∷ 131 ∷ 194 ∷ 64 ∷ 1 ∷ 72 ∷ 9 ∷ 139 ∷ 202 ∷ 206 ∷ 143 ∷ 13 ∷ 76 ∷
    149 ∷ 212 ∷ 86 ∷ 23 ∷ 19 ∷ 82 ∷ 208 ∷ 145 ∷ 216 ∷ 153 ∷ 27 ∷ 90 ∷ 94 ∷ 31 ∷ 157 ∷ 220 ∷
    15 ∷ 78 ∷ 204 ∷ 141 ∷ 137 ∷ 200 ∷ 74 ∷ 11 ∷ 66 ∷ 3 ∷ 129 ∷ 192 ∷ 196 ∷ 133 ∷ 7 ∷ 70 ∷
    224 ∷ 161 ∷ 35 ∷ 98 ∷ 102 ∷ 39 ∷ 165 ∷ 228 ∷ 173 ∷ 236 ∷ 110 ∷ 47 ∷ 43 ∷ 106 ∷ 232 ∷ 169 ∷
    122 ∷ 59 ∷ 185 ∷ 248 ∷ 252 ∷ 189 ∷ 63 ∷ 126 ∷ 55 ∷ 118 ∷ 244 ∷ 181 ∷ 177 ∷ 240 ∷ 114 ∷ 51 ∷
    127 ∷ 62 ∷ 188 ∷ 253 ∷ 249 ∷ 184 ∷ 58 ∷ 123 ∷ 50 ∷ 115 ∷ 241 ∷ 176 ∷ 180 ∷ 245 ∷ 119 ∷ 54 ∷
    229 ∷ 164 ∷ 38 ∷ 103 ∷ 99 ∷ 34 ∷ 160 ∷ 225 ∷ 168 ∷ 233 ∷ 107 ∷ 42 ∷ 46 ∷ 111 ∷ 237 ∷ 172 ∷
    10 ∷ 75 ∷ 201 ∷ 136 ∷ 140 ∷ 205 ∷ 79 ∷ 14 ∷ 71 ∷ 6 ∷ 132 ∷ 197 ∷ 193 ∷ 128 ∷ 2 ∷ 67 ∷
    144 ∷ 209 ∷ 83 ∷ 18 ∷ 22 ∷ 87 ∷ 213 ∷ 148 ∷ 221 ∷ 156 ∷ 30 ∷ 95 ∷ 91 ∷ 26 ∷ 152 ∷ 217 ∷ []

-- two rules of each entry, computed over the whole table: it has 32 bits, and its first eight tell it from the others
low : ℕ → Bool
unfolding table tab loop
low k = ltb (get_or table k 0) (2 ^ 32)

told : ℕ → Bool
unfolding table tab loop tops
told k = eqb (get_or tops (get_or table k 0 / 2 ^ 24) 0) k

abbrev entry : ℕ → ℕ
entry k = get_or table (k % 256) 0

entry_low : (k : ℕ) → entry k < 2 ^ 32
unfolding table tab loop low
entry_low k = ltb→lt _ _ (at_each 256 low tt (k % 256) (omega arith))

entry_told : (k : ℕ) → get_or tops (entry k / 2 ^ 24) 0 ≡ k % 256
unfolding table tab loop told tops
entry_told k = eqb→eq _ _ (at_each 256 told tt (k % 256) (omega arith))

-- ---- a byte

abbrev next : ℕ → ℕ → ℕ
next c byte = bit_xor (entry (bit_xor c byte)) (c / 256)

next_small : (c byte : ℕ) → c < 2 ^ 32 → next c byte < 2 ^ 32
next_small c byte h = xor_lt 32 (entry (bit_xor c byte)) (c / 256) (entry_low (bit_xor c byte)) (omega arith)

-- a register's first eight bits, after a byte, are those of the entry
top : (c byte : ℕ) → c < 2 ^ 32 → next c byte / 2 ^ 24 ≡ entry (bit_xor c byte) / 2 ^ 24
top c byte h =
    let none : c / 256 / 2 ^ 24 ≡ 0 = omega arith in
    xor_shr (entry (bit_xor c byte)) (c / 256) 24 ∙ rw (none, xor_zero_r)

-- so they tell which entry it was
place_told : (c d x y : ℕ) → c < 2 ^ 32 → d < 2 ^ 32 → next c x / 2 ^ 24 ≡ next d y / 2 ^ 24
    → bit_xor c x % 256 ≡ bit_xor d y % 256
place_told c d x y hc hd e =
    sym (entry_told (bit_xor c x)) ∙ ap (λ (n : ℕ). get_or tops n 0) (sym (top c x hc) ∙ e ∙ top d y hd)
    ∙ entry_told (bit_xor d y)

module _ (c d byte : ℕ) (hc : c < 2 ^ 32) (hd : d < 2 ^ 32) (same : next c byte ≡ next d byte) where
  same_place : bit_xor c byte % 256 ≡ bit_xor d byte % 256
  same_place = place_told c d byte byte hc hd (ap (λ (n : ℕ). n / 2 ^ 24) same)

  same_high : c / 256 ≡ d / 256
  same_high =
      let e = entry (bit_xor c byte) in
      let swapped : bit_xor (c / 256) e ≡ bit_xor (d / 256) e =
      xor_comm (c / 256) e ∙ same ∙ ap (λ (k : ℕ). bit_xor (get_or table k 0) (d / 256)) (sym same_place)
      ∙ xor_comm e (d / 256) in
      sym (xor_twice (c / 256) e) ∙ ap (λ (n : ℕ). bit_xor n e) swapped ∙ xor_twice (d / 256) e

  same_low : c % 256 ≡ d % 256
  same_low =
      let b = byte % 256 in
      let mixed : bit_xor (c % 256) b ≡ bit_xor (d % 256) b = sym (xor_mod c byte 8) ∙ same_place ∙ xor_mod d byte 8 in
      sym (xor_twice (c % 256) b) ∙ ap (λ (n : ℕ). bit_xor n b) mixed ∙ xor_twice (d % 256) b

  same_register : c ≡ d
  same_register = omega (arith, same_high, same_low)

-- ---- all bytes

crc_small : (c : ℕ) (bytes : List ℕ) → c < 2 ^ 32 → crc c bytes < 2 ^ 32
unfolding crc
crc_small c [] h = h
crc_small c (byte ∷ bytes) h = crc_small (next c byte) bytes (next_small c byte h)

crc_apart : (c d : ℕ) (bytes : List ℕ) → c < 2 ^ 32 → d < 2 ^ 32 → crc c bytes ≡ crc d bytes → c ≡ d
unfolding crc
crc_apart c d [] hc hd e = e
crc_apart c d (byte ∷ bytes) hc hd e =
    same_register c d byte hc hd
    (crc_apart (next c byte) (next d byte) bytes (next_small c byte hc) (next_small d byte hd) e)

inverted_small : (c : ℕ) → c < 2 ^ 32 → inverted c < 2 ^ 32
inverted_small c h = xor_lt 32 c 0xFFFFFFFF h (omega arith)

pub small : Small
unfolding crc32
small before bytes h =
    inverted_small (crc (inverted before) bytes) (crc_small (inverted before) bytes (inverted_small before h))

pub same_end : SameEnd
unfolding crc32
same_end before xs ys zs h e =
    let start = inverted before in
    let room = inverted_small before h in
    let plain : crc start (xs ++ zs) ≡ crc start (ys ++ zs) =
    sym (xor_twice _ 0xFFFFFFFF) ∙ ap inverted e ∙ xor_twice _ 0xFFFFFFFF in
    ap inverted (crc_apart (crc start xs) (crc start ys) zs (crc_small start xs room) (crc_small start ys room)
    (sym (crc_append start xs zs) ∙ plain ∙ crc_append start ys zs))

-- ---- at most four neighbours

-- what a register's first bits tell, its first eight do
first_eight : (k m n : ℕ) → k ≤ 24 → m / 2 ^ k ≡ n / 2 ^ k → m / 2 ^ 24 ≡ n / 2 ^ 24
first_eight k m n h e =
    let all : 2 ^ 24 ≡ 2 ^ k * 2
    ^ (24 - k) = ap (λ (i : ℕ). 2 ^ i) (let whole : 24 ≡ k + (24 - k) = omega arith in whole) ∙ pow-add 2 k (24 - k) in
    rw (all, ← div-div-eq-div-mul m (2 ^ k) (2 ^ (24 - k)), ← div-div-eq-div-mul n (2 ^ k) (2 ^ (24 - k)), e)

byte_more : (n k : ℕ) → n / 256 / 2 ^ (8 * k) ≡ n / 2 ^ (8 * suc k)
byte_more n k =
    let bits : 8 * suc k ≡ 8 + 8 * k = omega arith in
    div-div-eq-div-mul n 256 (2 ^ (8 * k)) ∙ rw (bits, pow-add 2 8 (8 * k))

-- registers that come to the same by so many bytes each agree in front of their last bits
high_told : (c d x y k : ℕ) → bit_xor c x % 256 ≡ bit_xor d y % 256 → next c x / 2 ^ k ≡ next d y / 2 ^ k
    → c / 256 / 2 ^ k ≡ d / 256 / 2 ^ k
high_told c d x y k place e =
    let t = entry (bit_xor c x) / 2 ^ k in
    let swapped : bit_xor (c / 256 / 2 ^ k) t ≡ bit_xor (d / 256 / 2 ^ k) t =
    xor_comm (c / 256 / 2 ^ k) t
    ∙ sym (xor_shr (entry (bit_xor c x)) (c / 256) k)
    ∙ e
    ∙ xor_shr (entry (bit_xor d y)) (d / 256) k
    ∙ ap (λ (i : ℕ). bit_xor (get_or table i 0 / 2 ^ k) (d / 256 / 2 ^ k)) (sym place)
    ∙ xor_comm t (d / 256 / 2 ^ k) in
    sym (xor_twice (c / 256 / 2 ^ k) t) ∙ ap (λ (n : ℕ). bit_xor n t) swapped ∙ xor_twice (d / 256 / 2 ^ k) t

ahead : (xs ys : List ℕ) (c d : ℕ) → length xs ≡ length ys → length xs ≤ 4 → c < 2 ^ 32 → d < 2 ^ 32
    → crc c xs ≡ crc d ys
    → c / 2 ^ (8 * length xs) ≡ d / 2 ^ (8 * length xs)
unfolding crc
ahead [] [] c d same few hc hd e = ap (λ (n : ℕ). n / 2 ^ 0) e
ahead [] (y ∷ ys) c d same few hc hd e = absurd (omega arith)
ahead (x ∷ xs) [] c d same few hc hd e = absurd (omega arith)
ahead (x ∷ xs) (y ∷ ys) c d same few hc hd e =
    let k = length xs in
    let behind =
    ahead xs ys (next c x) (next d y) (omega arith) (omega arith) (next_small c x hc) (next_small d y hd) e in
    let place = place_told c d x y hc hd (first_eight (8 * k) _ _ (omega arith) behind) in
    sym (byte_more c k) ∙ high_told c d x y (8 * k) place behind ∙ byte_more d k

same_byte : (c x y : ℕ) → x < 256 → y < 256 → bit_xor c x % 256 ≡ bit_xor c y % 256 → x ≡ y
same_byte c x y hx hy e =
    let low = c % 256 in
    let mixed : bit_xor low (x % 256) ≡ bit_xor low (y % 256) = sym (xor_mod c x 8) ∙ e ∙ xor_mod c y 8 in
    let swapped : bit_xor (x % 256) low ≡ bit_xor (y % 256) low =
    xor_comm (x % 256) low ∙ mixed ∙ xor_comm low (y % 256) in
    let same : x % 256 ≡ y % 256 =
    sym (xor_twice (x % 256) low) ∙ ap (λ (n : ℕ). bit_xor n low) swapped ∙ xor_twice (y % 256) low in
    omega arith

burst : (xs ys : List ℕ) (c : ℕ) → length xs ≡ length ys → length xs ≤ 4 → Bytes xs → Bytes ys → c < 2 ^ 32
    → crc c xs ≡ crc c ys → xs ≡ ys
unfolding crc
burst [] [] c same few bx by h e = refl
burst [] (y ∷ ys) c same few bx by h e = absurd (omega arith)
burst (x ∷ xs) [] c same few bx by h e = absurd (omega arith)
burst (x ∷ xs) (y ∷ ys) c same few bx by h e =
    let behind =
    ahead xs ys (next c x) (next c y) (omega arith) (omega arith) (next_small c x h) (next_small c y h) e in
    let place = place_told c c x y h h (first_eight (8 * length xs) _ _ (omega arith) behind) in
    let first = same_byte c x y (bx 0) (by 0) place in
    let on : crc (next c y) xs ≡ crc (next c y) ys = rw first at e in
    let rest =
    burst xs ys (next c y) (omega arith) (omega arith) (λ i. bx (suc i)) (λ i. by (suc i)) (next_small c y h) on in
    cc

pub burst_seen : BurstSeen
unfolding crc32
burst_seen before a x y b h same few bx by e =
    let start = inverted before in
    let room = inverted_small before h in
    let front = same_end before (a ++ x) (a ++ y) b h (rw (append_assoc a x b, append_assoc a y b) e) in
    let plain : crc start (a ++ x) ≡ crc start (a ++ y) =
    sym (xor_twice _ 0xFFFFFFFF) ∙ ap inverted front ∙ xor_twice _ 0xFFFFFFFF in
    burst x y (crc start a) same few bx by (crc_small start a room)
    (sym (crc_append start a x) ∙ plain ∙ crc_append start a y)

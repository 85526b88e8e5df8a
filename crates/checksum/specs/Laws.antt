-- What is claimed of checksums. The proofs are in proofs/Parts.antt and proofs/Apart.antt.
use Rattle.std.specs.Prelude.{◌^◌, ◌≤◌, ◌<◌, ◌++◌, ◌≡◌}
use Rattle.rules.specs.Common.{ℕ, List, length}
use Rattle.rules.specs.Lists.{Bytes}
use Rattle.checksum.specs.Checksum.{crc32}

-- The checksum of some bytes and then of more bytes is the checksum of all of them.
abbrev pub InParts : Type 0
InParts = (before : ℕ) (xs ys : List ℕ) → crc32 (crc32 before xs) ys ≡ crc32 before (xs ++ ys)

-- A checksum has 32 bits.
abbrev pub Small : Type 0
Small = (before : ℕ) (bytes : List ℕ) → before < 2 ^ 32 → crc32 before bytes < 2 ^ 32

-- If two lists of bytes end alike and have the same checksum, then what comes before that end has the same checksum
-- too.
abbrev pub SameEnd : Type 0
SameEnd =
    (before : ℕ) (xs ys zs : List ℕ) → before < 2 ^ 32 → crc32 before (xs ++ zs) ≡ crc32 before (ys ++ zs)
    → crc32 before xs ≡ crc32 before ys

-- A change of at most four neighbouring bytes always changes the checksum.
abbrev pub BurstSeen : Type 0
BurstSeen =
    (before : ℕ) (a x y b : List ℕ) → before < 2 ^ 32 → length x ≡ length y → length x ≤ 4 → Bytes x → Bytes y
    → crc32 before (a ++ (x ++ b)) ≡ crc32 before (a ++ (y ++ b)) → x ≡ y

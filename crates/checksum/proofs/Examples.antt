-- Checksums by the definition, as computed lists. Assumes nothing.
use Rattle.std.specs.Prelude.{◌∷◌, ◌≡◌}
use Rattle.rules.proofs.Common.{[], map, refl}
use Rattle.rules.specs.Loop.{loop}
use Rattle.rules.specs.Tab.{tab}
use Rattle.checksum.specs.Checksum.{table, crc, crc32}

-- of nothing, of one zero, of "IEND", which every PNG ends in, and of "123456789", by which a CRC is told from others
examples : map (crc32 0)
    ([] ∷ (0 ∷ []) ∷ (73 ∷ 69 ∷ 78 ∷ 68 ∷ []) ∷ (49 ∷ 50 ∷ 51 ∷ 52 ∷ 53 ∷ 54 ∷ 55 ∷ 56 ∷ 57 ∷ []) ∷ [])
    ≡ 0 ∷ 0xD202EF8D ∷ 0xAE426082 ∷ 0xCBF43926 ∷ []
unfolding table tab loop crc crc32
examples = refl

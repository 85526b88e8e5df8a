use mathlib.Core.Path.{ap}
use Rattle.checksum.specs.Checksum.{inverted, crc32}
use Rattle.checksum.proofs.crc32.Goals as goal

pub returns : goal.returns
unfolding crc32
returns c = ap inverted c.update.ensures

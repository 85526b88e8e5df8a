-- `bands::dct_table::all` gives the definition's list, by computing. Assumes nothing.
use mathlib.Core.Path.{refl}
use Rattle.bands.specs.DctTable.{dct_table}
use Rattle.bands.proofs.dct_table.all.Goals as goal

pub returns : goal.returns
unfolding dct_table
returns c = refl

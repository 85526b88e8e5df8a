-- `checksum::table::all` gives the definition's list: the table's rule, computed once. Assumes nothing.
use mathlib.Core.Path.{refl}
use Rattle.rules.specs.Loop.{loop}
use Rattle.rules.specs.Tab.{tab}
use Rattle.checksum.specs.Checksum.{table}
use Rattle.checksum.proofs.table.all.Goals as goal

pub returns : goal.returns
unfolding table tab loop
returns c = refl

-- `numbers::table::all` gives the definition's list, by computing.
-- Assumes nothing.
use Rattle.std.proofs.Common.{rules}
use Rattle.numbers.specs.Tansig.{tansig}
use Rattle.numbers.proofs.table.all.Goals as goal

pub returns : goal.returns
unfolding tansig
returns c = search rules

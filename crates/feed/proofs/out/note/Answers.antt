-- `feed::out::note` meets its contract: the first j places hold the first j entries. Assumes nothing.
use Rattle.rules.proofs.Common.{refl}
use native.Mathlib.Omega.{arith}
use Rattle.rules.proofs.Lists.{fills, filling_begin, filling_ended}
use Rattle.feed.proofs.out.note.Goals as goal

pub loop-j-init : goal.loop-j-init
loop-j-init c = (omega arith, refl, c.requires.0, c.requires.1, filling_begin _ _)

pub entry_of-requires : goal.entry_of-requires
entry_of-requires c = search fills

pub loop-j-preserved : goal.loop-j-preserved
loop-j-preserved c = search (fills, c.entry_of.ensures)

pub returns : goal.returns
returns c = let l = c.loop-j in filling_ended _ _ _ _ (omega arith) (omega arith) refl l.invariant.4

-- `frame::heard::hear` meets its contract. Assumes nothing.
use Rattle.rules.proofs.Common.{sym}
use native.Mathlib.Omega.{arith}
use Rattle.rules.specs.Place.{get}
use Rattle.rules.proofs.Refusals.{left as fitted}
use Rattle.frame.proofs.Sizes.{ex_size}
use Rattle.frame.proofs.heard.hear.Goals as goal

pub process_heard-requires-clause-as_kept : goal.process_heard-requires-clause-as_kept
unfolding get
process_heard-requires-clause-as_kept c =
    (c.requires.as_kept, fitted c.copy.ensures (sym (ex_size c.args.share.now (omega arith))))

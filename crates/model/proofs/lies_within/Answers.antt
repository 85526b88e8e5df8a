-- `model::lies_within` meets its contract: the counts, and the end by a subtraction. Assumes nothing.
use mathlib.Core.Path.{◌∙◌}
use native.Mathlib.Omega.{arith}
use borrow.Author.Tests.{lt-leb}
use Rattle.model.proofs.Places.{too_wide, too_long_lem, decides}
use Rattle.model.proofs.lies_within.Goals as goal

pub returns-then-h-gt127 : goal.returns-then-h-gt127
returns-then-h-gt127 c = too_wide c.args.bytes c.args.kind c.args.h c.then-h-gt127.either

pub returns-then-len-bytes : goal.returns-then-len-bytes
returns-then-len-bytes c =
    let a = c.args in
    decides a.bytes a.kind a.h _ c.size-len.ensures (omega arith) (omega arith) (omega arith)

pub returns-else-len-bytes : goal.returns-else-len-bytes
returns-else-len-bytes c =
    let a = c.args in
    lt-leb c.size-len.result a.bytes (omega arith)
    ∙ too_long_lem a.bytes a.kind a.h _ c.size-len.ensures (omega arith) (omega arith) (omega arith)

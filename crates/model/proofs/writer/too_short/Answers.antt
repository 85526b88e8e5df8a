-- The loop's invariant: what is left, with the lengths passed, is the buffer. Assumes nothing.
use Rattle.std.specs.Prelude.{◌+◌}
use Rattle.rules.proofs.Common.{sym}
use native.Mathlib.Omega.{arith}
use borrow.Author.Rules.{rules}
use borrow.Author.Tests.{lt-ltb}
use Rattle.rules.specs.Lists.{sum}
use Rattle.model.proofs.Places.{part_sum}
use Rattle.model.proofs.Given.{sum_take, all_passed, same_short}
use Rattle.model.proofs.writer.too_short.Goals as goal

pub returns-then-left-length : goal.returns-then-left-length
returns-then-left-length c =
    sym (lt-ltb c.args.buffer (18 + sum c.args.lengths)
    (omega (arith, part_sum c.args.lengths c.loop-length.length-index)))

pub loop-length-preserved : goal.loop-length-preserved
loop-length-preserved c = omega (arith, sum_take c.args.lengths c.loop-length.length-index)

pub returns : goal.returns
returns c =
    let l = c.loop-length in
    let all = all_passed c.args.lengths l.length-index (omega arith) (search rules) in
    same_short l.left c.args.buffer (sum c.args.lengths) (omega (arith, all))

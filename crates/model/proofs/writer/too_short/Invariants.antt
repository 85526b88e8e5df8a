-- The loop's invariant: what is left, with the lengths passed, is the buffer. Assumes nothing.
use Rattle.std.specs.Prelude.{◌+◌, ◌≤◌, ◌≡◌}
use Rattle.rules.proofs.Common.{take}
use Rattle.rules.specs.Lists.{sum}
use Rattle.model.proofs.writer.too_short.Given as goal

abbrev pub invariant-loop-length : goal.invariant-loop-length
invariant-loop-length l = (l.length-index ≤ 18) × (l.left + sum (take l.length-index l.fn.lengths) ≡ l.buffer)

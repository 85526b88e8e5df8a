-- `numbers::twice_root` meets its contract. The loop's invariant: the root is at least r and below r + gap. Where the
-- gap is 1, r is the whole root. Assumes nothing.
use Rattle.std.specs.Prelude.{◌+◌, ◌*◌, ◌^◌, ◌≤◌, ◌<◌}
use Rattle.rules.proofs.Common.{ℕ}
use Rattle.numbers.proofs.twice_root.Given as goal

-- the root of n is at least `from`, and below from + gap
pub record Spans (n from gap : ℕ) : Type 0 where
  pub some : 0 < gap
  pub few : gap ≤ 2 ^ 27
  pub low : from * from ≤ n
  pub high : n < (from + gap) * (from + gap)

abbrev pub invariant-loop-gap : goal.invariant-loop-gap
invariant-loop-gap l = Spans l.n l.r l.gap

abbrev pub decreases-loop-gap : goal.decreases-loop-gap
decreases-loop-gap l = l.gap

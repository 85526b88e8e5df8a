-- `numbers::narrow_magnitude` meets its contract: each arm is a case of `proofs/Conversion.antt`. Assumes nothing.
use Rattle.std.proofs.Common.{ℕ, ◌-◌, ◌*◌, ◌^◌, ◌≤◌, ◌≡◌, min, sym, subst}
use lib.Ieee.Nearest.{closest}
use Rattle.numbers.specs.Private.{Narrows}
use Rattle.numbers.proofs.Conversion.{normal_narrows, subnormal_narrows, zero_narrows}
use Rattle.numbers.proofs.narrow_magnitude.Goals as goal

-- the smaller of what `rounded` gave and the pattern of the infinity
at_most : (a r : ℕ) → 0x3810_0000_0000_0000 ≤ a → a ≤ 2047 * 2 ^ 52 → r ≡ closest (a - 0x3800_0000_0000_0000) (2 ^ 29)
    → Narrows a (min r 0x7f80_0000)
at_most a r from small e = subst (λ (x : ℕ). Narrows a (min x 0x7f80_0000)) (sym e) (normal_narrows a from small)

pub returns-then-a-ge-NORMAL : goal.returns-then-a-ge-NORMAL
returns-then-a-ge-NORMAL c =
    subst (Narrows c.args.a) (sym c.min.ensures)
    (at_most c.args.a _ c.if-a-ge-NORMAL.true c.requires c.rounded.ensures)

pub returns-then-a-ge-HALF_SMALLEST : goal.returns-then-a-ge-HALF_SMALLEST
returns-then-a-ge-HALF_SMALLEST c =
    subst (Narrows c.args.a) (sym c.rounded-then-a-ge-HALF_SMALLEST.ensures)
    (subnormal_narrows c.args.a c.if-a-ge-HALF_SMALLEST.true c.if-a-ge-NORMAL.false)

pub returns : goal.returns
returns c = zero_narrows c.args.a c.if-a-ge-HALF_SMALLEST.false

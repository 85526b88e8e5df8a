-- `pcm::nearest::up_to` meets its contract: by twice x, cut. Assumes nothing.
use Rattle.std.proofs.Common.{arith}
use Rattle.std.specs.Prelude.{◌≡◌}
use Rattle.rules.proofs.Common.{true, false, sym, subst, T, binary32, Float}
use lib.Ieee.{fits, le}
use Rattle.rules.specs.F32.{f32}
use Rattle.pcm.specs.Private.{Upwards}
use Rattle.pcm.proofs.Rounding.{Rounds, rounds, within, beyond, at_the_top}
use Rattle.pcm.proofs.nearest.up_to.Goals as goal

-- what owning an `f32` tells is that the format holds it
rounded : (x : Float) → fits binary32 x ≡ true → Upwards x → le (f32 0x47000000) x ≡ false → Rounds x
rounded x e up below = rounds x (subst T (sym e) tt) up below

pub returns-then-x : goal.returns-then-x
returns-then-x c = (at_the_top c.args.x c.args.most c.requires.0 c.if-x.true c.requires.1, c.requires.1)

pub truncating_f32_to_u64-requires : goal.truncating_f32_to_u64-requires
truncating_f32_to_u64-requires c =
    let k = rounded c.args.x c.well_formed.0.1 c.requires.0 c.if-x.false in
    record { lower_bound = k.above; upper_bound = k.under }

pub overflow_add-r : goal.overflow_add-r
overflow_add-r c =
    let k = rounded c.args.x c.well_formed.0.1 c.requires.0 c.if-x.false in
    omega (arith, k.small, c.truncating_f32_to_u64.ensures)

pub returns-then-r-most : goal.returns-then-r-most
returns-then-r-most c =
    let k = rounded c.args.x c.well_formed.0.1 c.requires.0 c.if-x.false in (
      within _ _ _ k c.truncating_f32_to_u64.ensures c.if-r-most.true,
      omega (arith, c.requires.1),
    )

pub returns-else-r-most : goal.returns-else-r-most
returns-else-r-most c =
    let k = rounded c.args.x c.well_formed.0.1 c.requires.0 c.if-x.false in (
      beyond _ _ _ k c.truncating_f32_to_u64.ensures c.if-r-most.false,
      c.requires.1,
    )

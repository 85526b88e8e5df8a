-- `logs::nudge` meets its contract: each way through it is a case of proofs/Nudged. Assumes nothing.
use Rattle.std.specs.Prelude.{◌≡◌}
use Rattle.rules.proofs.Common.{true, false, sym, subst, T, Float, binary64}
use lib.Ieee.{fits}
use lib.Ieee.Compare.{differs_from_itself}
use Rattle.numbers.proofs.NoNan.{real_of}
use Rattle.rules.specs.F64.{◌-₆₄◌}
use Rattle.logs.proofs.Nudged.{broken, off_middle, nothing_lost, moved, beside}
use Rattle.logs.proofs.nudge.Goals as goal

-- what owning an `f64` tells: the format holds it
held : (x : Float) → fits binary64 x ≡ true → T (fits binary64 x)
held x e = subst T (sym e) tt

-- what t lost
abbrev lost : Float → Float → Float → Float
lost t s w = w -₆₄ (t -₆₄ s)

pub returns-then-t : goal.returns-then-t
returns-then-t c = sym (broken c.args.t (lost c.args.t c.args.s c.args.w)
    (differs_from_itself c.args.t (subst T (sym c.if-t.true) tt)))

pub float_to_bits-bits : goal.float_to_bits-bits
float_to_bits-bits c = real_of c.args.t c.if-t.false

pub returns-then-bits-ne268435456 : goal.returns-then-bits-ne268435456
returns-then-bits-ne268435456 c = sym (off_middle c.args.t (lost c.args.t c.args.s c.args.w) c.if-bits-ne268435456.true)

pub returns-then-z : goal.returns-then-z
returns-then-z c = sym (nothing_lost c.args.t (lost c.args.t c.args.s c.args.w) c.if-z.true)

pub overflow_add-result : goal.overflow_add-result
overflow_add-result c = record {
  fits = (beside c.args.t (held c.args.t c.well_formed.0.1) (real_of c.args.t c.if-t.false)
      c.if-bits-ne268435456.false).room;
}

pub float_from_bits-result : goal.float_from_bits-result
float_from_bits-result c = (beside c.args.t (held c.args.t c.well_formed.0.1) (real_of c.args.t c.if-t.false)
    c.if-bits-ne268435456.false).up

pub returns-then-z-t : goal.returns-then-z-t
returns-then-z-t c = sym (moved c.args.t (lost c.args.t c.args.s c.args.w) true c.if-bits-ne268435456.false c.if-z.false
    c.if-z-t.true)

pub float_from_bits-result-2 : goal.float_from_bits-result-2
float_from_bits-result-2 c = (beside c.args.t (held c.args.t c.well_formed.0.1) (real_of c.args.t c.if-t.false)
    c.if-bits-ne268435456.false).down

pub returns : goal.returns
returns c = sym (moved c.args.t (lost c.args.t c.args.s c.args.w) false c.if-bits-ne268435456.false c.if-z.false
    c.if-z-t.false)

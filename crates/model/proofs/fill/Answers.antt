-- The loop's invariant: the numbers passed are those of their lines, and the rest is as it was. Assumes nothing.
use Rattle.std.specs.Prelude.{◌/◌, ◌%◌}
use Rattle.rules.proofs.Common.{sym, ◌∙◌, length-set}
use native.Mathlib.Nat.{mod-lt}
use native.Mathlib.Omega.{arith}
use Rattle.rules.proofs.Lists.{tab_none, tab_more, tab_done}
use Rattle.model.specs.Model.{read_of}
use Rattle.model.specs.Summary.{number_in}
use Rattle.model.proofs.Bounds.{line_small}
use Rattle.model.proofs.fill.Goals as goal

pub loop-i-init : goal.loop-i-init
loop-i-init c =
    let a = c.args in
    (omega arith, c.requires, tab_none (number_in (read_of a.bytes.now)) a.numbers.now)

pub bounds-row-i : goal.bounds-row-i
bounds-row-i c = omega (arith, mod-lt c.loop-i.i {m = 5} (omega arith))

pub overflow_cast-number : goal.overflow_cast-number
overflow_cast-number c =
    rw c.line-row.ensures (omega
    (arith, line_small c.args.bytes.now (c.loop-i.i / 5) (c.loop-i.i % 5)))

pub loop-i-preserved : goal.loop-i-preserved
unfolding number_in
loop-i-preserved c =
    let a = c.args in
    let row = number_in (read_of a.bytes.now) in (
      omega arith,
      simp length-set c.loop-i.invariant.1,
      tab_more row a.numbers.now c.loop-i.numbers c.loop-i.i _ c.loop-i.invariant.2 (rw c.line-row.ensures)
          (omega (arith, c.requires)),
    )

pub shape_of-numbers : goal.shape_of-numbers
shape_of-numbers c = c.loop-i.invariant.1 ∙ sym c.requires

pub returns : goal.returns
returns c =
    let a = c.args in
    c.loop-i.invariant.2 ∙ tab_done (number_in (read_of a.bytes.now)) a.numbers.now c.loop-i.i 30 (omega arith)
    (omega (arith, c.requires))

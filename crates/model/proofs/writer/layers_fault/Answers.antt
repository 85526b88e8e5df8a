-- The loop's invariant: the layers still to come decide. Assumes nothing.
use Rattle.std.specs.Prelude.{◌≡◌}
use Rattle.rules.proofs.Common.{sym, refl, ◌∙◌}
use native.Mathlib.Omega.{arith}
use borrow.Author.Rules.{rules}
use Rattle.model.proofs.Given.{stopped, on, none_behind}
use Rattle.model.proofs.Numbers.{number_in_range}
use Rattle.model.proofs.writer.layers_fault.Goals as goal

pub returns-in-Err : goal.returns-in-Err
returns-in-Err c =
    let e = rw (
      c.kinds_in_row-kinds.ensures,
      c.in-Err.is,
    ) at
    c.layer_fault-fits.ensures in
    let some = number_in_range c.in-Err.refusal in
    stopped c.args.shapes.now c.args.lengths c.requires (search rules) c.loop-layer.layer (omega arith) e
    (λ z. omega (arith, some.0)) ∙ sym c.loop-layer.invariant.1

pub loop-layer-preserved : goal.loop-layer-preserved
loop-layer-preserved c =
    let e = rw (
      c.kinds_in_row-kinds.ensures,
      c.in_default.is,
    ) at
    c.layer_fault-fits.ensures in (
      omega arith,
      c.loop-layer.invariant.1 ∙ on c.args.shapes.now c.args.lengths c.requires (search rules) c.loop-layer.layer
          (omega arith) e refl,
    )

pub returns : goal.returns
returns c =
    let six : c.loop-layer.layer ≡ 6 = omega arith in
    sym (rw six at c.loop-layer.invariant.1 ∙ none_behind c.args.shapes.now c.args.lengths)

-- Three layers, one behind the other. Assumes nothing.
use Rattle.std.specs.Prelude.{◌+◌, ◌++◌}
use native.Mathlib.Omega.{arith}
use Rattle.model.specs.Private.{layer_bytes, three_bytes}
use Rattle.model.proofs.Over.{front, behind, both}
use Rattle.model.proofs.writer.put_three.Goals as goal

pub put_layer-at-requires : goal.put_layer-at-requires
unfolding three_bytes
put_layer-at-requires c =
    let a = c.args in
    let l1 = layer_bytes a.shapes.now (a.first + 3) a.w1.now a.r1.now a.b1.now in
    let l2 = layer_bytes a.shapes.now (a.first + 6) a.w2.now a.r2.now a.b2.now in (
      omega arith,
      c.requires.1,
      front a.at (layer_bytes a.shapes.now a.first a.w0.now a.r0.now a.b0.now)
          (l1 ++ l2) _ c.requires.2,
    )

pub put_layer-at-requires-2 : goal.put_layer-at-requires-2
unfolding three_bytes
put_layer-at-requires-2 c =
    let a = c.args in
    let l1 = layer_bytes a.shapes.now (a.first + 3) a.w1.now a.r1.now a.b1.now in
    let l2 = layer_bytes a.shapes.now (a.first + 6) a.w2.now a.r2.now a.b2.now in (
      omega arith,
      c.requires.1,
      front _ l1 l2 _ (behind c.put_layer-at.ensures (l1 ++ l2) c.requires.2),
    )

pub put_layer-requires : goal.put_layer-requires
unfolding three_bytes
put_layer-requires c =
    let a = c.args in
    let l1 = layer_bytes a.shapes.now (a.first + 3) a.w1.now a.r1.now a.b1.now in
    let l2 = layer_bytes a.shapes.now (a.first + 6) a.w2.now a.r2.now a.b2.now in (
      omega arith,
      c.requires.1,
      behind c.put_layer-at-2.ensures l2
          (behind c.put_layer-at.ensures (l1 ++ l2)
          c.requires.2),
    )

pub returns : goal.returns
unfolding three_bytes
returns c =
    let a = c.args in
    let l1 = layer_bytes a.shapes.now (a.first + 3) a.w1.now a.r1.now a.b1.now in
    let l2 = layer_bytes a.shapes.now (a.first + 6) a.w2.now a.r2.now a.b2.now in
    let one = c.put_layer-at.ensures in
    both one (l1 ++ l2) c.requires.2
    (both c.put_layer-at-2.ensures l2
    (behind one (l1 ++ l2) c.requires.2) c.put_layer.ensures)

-- The header and three arrays, one behind the other. Assumes nothing.
use mathlib.Core.List.{◌++◌}
use Rattle.model.specs.Private.{header_bytes, layer_bytes}
use Rattle.model.proofs.Over.{front, behind, both}
use Rattle.model.proofs.writer.put_layer.Goals as goal

pub put-at-requires : goal.put-at-requires
unfolding layer_bytes
put-at-requires c =
    let a = c.args in
    rw c.header_bytes-header.ensures
    (front a.at (header_bytes a.shapes.now a.first)
    (a.weights.now ++ (a.recurrent.now ++ a.bias.now)) _ c.requires.2)

pub put-at-requires-2 : goal.put-at-requires-2
unfolding layer_bytes
put-at-requires-2 c =
    let a = c.args in
    let one = rw c.header_bytes-header.ensures at c.put-at.ensures in
    let left = behind one (a.weights.now ++ (a.recurrent.now ++ a.bias.now)) c.requires.2 in
    front _ a.weights.now (a.recurrent.now ++ a.bias.now) _ left

pub put-at-requires-3 : goal.put-at-requires-3
unfolding layer_bytes
put-at-requires-3 c =
    let a = c.args in
    let one = rw c.header_bytes-header.ensures at c.put-at.ensures in
    let left = behind one (a.weights.now ++ (a.recurrent.now ++ a.bias.now)) c.requires.2 in
    let two = c.put-at-2.ensures in
    let left2 = behind two (a.recurrent.now ++ a.bias.now) left in
    front _ a.recurrent.now a.bias.now _ left2

pub put-requires : goal.put-requires
unfolding layer_bytes
put-requires c =
    let a = c.args in
    let one = rw c.header_bytes-header.ensures at c.put-at.ensures in
    let left = behind one (a.weights.now ++ (a.recurrent.now ++ a.bias.now)) c.requires.2 in
    let two = c.put-at-2.ensures in
    let left2 = behind two (a.recurrent.now ++ a.bias.now) left in
    let three = c.put-at-3.ensures in
    let left3 = behind three a.bias.now left2 in
    left3

pub returns : goal.returns
unfolding layer_bytes
returns c =
    let a = c.args in
    let one = rw c.header_bytes-header.ensures at c.put-at.ensures in
    let left = behind one (a.weights.now ++ (a.recurrent.now ++ a.bias.now)) c.requires.2 in
    let two = c.put-at-2.ensures in
    let left2 = behind two (a.recurrent.now ++ a.bias.now) left in
    let three = c.put-at-3.ensures in
    let four = c.put.ensures in
    both one (a.weights.now ++ (a.recurrent.now ++ a.bias.now)) c.requires.2
    (both two (a.recurrent.now ++ a.bias.now) left (both three a.bias.now left2 four))

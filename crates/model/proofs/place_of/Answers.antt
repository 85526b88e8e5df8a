-- Three sums within the file, and a place for each array. Assumes nothing.
use mathlib.Core.Path.{refl}
use native.Mathlib.Omega.{arith}
use Rattle.model.proofs.Layer.{size_sum}
use Rattle.model.proofs.Places.{first_at, second_at, third_at, none_behind}
use Rattle.model.proofs.place_of.Goals as goal

pub overflow_add-one : goal.overflow_add-one
overflow_add-one c =
    let a = c.args in
    rw c.array_lengths-n.ensures
    (omega (arith, size_sum a.kind a.h.inputs a.h.neurons, c.requires.2))

pub overflow_add-two : goal.overflow_add-two
overflow_add-two c =
    let a = c.args in
    rw c.array_lengths-n.ensures
    (omega (arith, size_sum a.kind a.h.inputs a.h.neurons, c.requires.2))

pub overflow_add-end : goal.overflow_add-end
overflow_add-end c =
    let a = c.args in
    rw c.array_lengths-n.ensures
    (omega (arith, size_sum a.kind a.h.inputs a.h.neurons, c.requires.2))

pub returns-in-0 : goal.returns-in-0
returns-in-0 c =
    let a = c.args in
    rw (c.array_lengths-n.ensures, c.in-0.is)
    (first_at a.kind a.h.inputs a.h.neurons a.h.start, refl)

pub returns-in-1 : goal.returns-in-1
returns-in-1 c =
    let a = c.args in
    rw (c.array_lengths-n.ensures, c.in-1.is)
    (second_at a.kind a.h.inputs a.h.neurons a.h.start, refl)

pub returns-in-2 : goal.returns-in-2
returns-in-2 c =
    let a = c.args in
    rw (c.array_lengths-n.ensures, c.in-2.is)
    (third_at a.kind a.h.inputs a.h.neurons a.h.start, refl)

pub returns-in_default : goal.returns-in_default
returns-in_default c =
    let a = c.args in
    rw c.array_lengths-n.ensures
    (none_behind a.kind a.h.inputs a.h.neurons a.h.start a.which (omega arith))

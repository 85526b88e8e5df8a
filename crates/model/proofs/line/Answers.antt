-- At a layer that was found: `at` is where it was, and `found` says so. Assumes nothing.
use Rattle.rules.proofs.Common.{sym, ◌∙◌, length}
use native.Mathlib.Nat.{le_refl}
use native.Mathlib.Omega.{arith}
use Rattle.model.proofs.Places.{within}
use Rattle.model.proofs.line.Goals as goal

pub overflow_sub-result : goal.overflow_sub-result
overflow_sub-result c =
    let found = sym c.in-Some.is ∙ c.find.ensures in
    let good =
    within c.args.bytes.now c.args.layer found (le_refl (length c.args.bytes.now)) in
    good.start

pub size-requires : goal.size-requires
size-requires c =
    let found = sym c.in-Some.is ∙ c.find.ensures in
    let good =
    within c.args.bytes.now c.args.layer found (le_refl (length c.args.bytes.now)) in
    (good.inputs, good.neurons)

pub overflow_add-result : goal.overflow_add-result
overflow_add-result c =
    let found = sym c.in-Some.is ∙ c.find.ensures in
    let good =
    within c.args.bytes.now c.args.layer found (le_refl (length c.args.bytes.now)) in
    rw c.size.ensures (omega (arith, good.reach, c.type_inv.bytes))

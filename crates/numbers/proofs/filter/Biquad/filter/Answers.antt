-- `Biquad::filter` meets its contract. Assumes nothing.
use Rattle.std.specs.Prelude.{◌≡◌, Ok}
use Rattle.rules.proofs.Common.{refl, ap, ◌∙◌, length-set}
use Rattle.std.proofs.Common.{arith}
use Rattle.rules.specs.Leaf.{◌leaving◌, done}
use Rattle.numbers.specs.declared.filter.Memory.{Memory}
use Rattle.numbers.specs.Filter.{memory_after, outputs}
use Rattle.numbers.specs.Private.{memory_in}
use Rattle.numbers.proofs.Outputs.{filter_begin, filter_more, filter_ended}
use Rattle.numbers.proofs.filter.Biquad.filter.Goals as goal

pub loop-i-init : goal.loop-i-init
loop-i-init c = (refl, filter_begin _ _ _ _)

pub loop-i-preserved : goal.loop-i-preserved
loop-i-preserved c =
    let l = c.loop-i in
    let t = c.turn-turned.ensures in
    (simp length-set l.invariant.0, filter_more _ _ _ _ _ l.invariant.1 (omega arith) t.0 t.1)

pub returns : goal.returns
returns c =
    let l = c.loop-i in
    let k = c.args.self in
    let xs = c.args.input.now in
    let e = filter_ended _ _ _ _ _ l.invariant.1 (omega arith)
    (omega arith) record { first = c.wide.ensures.1; second = c.wide-2.ensures.1 } c.narrow.ensures
    c.narrow-2.ensures in
    let same : memory_in record { m0 = c.wide.result; m1 = c.wide-2.result } ≡ c.args.memory =
    λ i. record { m0 = c.wide.ensures.0 i; m1 = c.wide-2.ensures.0 i } in
    done (omega arith) ((λ i. (Ok (e.0 i), e.1 i))
    ∙ ap (λ (m : Memory). (Ok (memory_after k m xs) leaving outputs k m xs)) same)

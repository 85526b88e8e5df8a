-- `pcm::number::clipped` meets its contract: each answer by the tests that lead to it. Assumes nothing.
use Rattle.std.specs.Prelude.{◌≡◌}
use Rattle.rules.proofs.Common.{true, false, le, neg}
use Rattle.rules.specs.F32.{f32}
use Rattle.pcm.specs.Pcm.{clipped}
use Rattle.pcm.proofs.number.clipped.Goals as goal

pub returns-then-not-y : goal.returns-then-not-y
unfolding clipped
returns-then-not-y c = let low : le (neg (f32 0x7F7FFFFF)) c.args.y ≡ false = c.if-not-y.true in rw low

pub returns-then-not-y-2 : goal.returns-then-not-y-2
unfolding clipped
returns-then-not-y-2 c =
    let y = c.args.y in
    let low : le (neg (f32 0x7F7FFFFF)) y ≡ true = c.if-not-y.false in
    let high : le y (f32 0x7F7FFFFF) ≡ false = c.if-not-y-2.true in
    rw (low, high)

pub returns : goal.returns
unfolding clipped
returns c =
    let y = c.args.y in
    let low : le (neg (f32 0x7F7FFFFF)) y ≡ true = c.if-not-y.false in
    let high : le y (f32 0x7F7FFFFF) ≡ true = c.if-not-y-2.false in
    rw (low, high) c.clamp.ensures

-- `halves::second::synthesise` meets its contract: call 4 is given the lengths that it wants. Assumes nothing.
use Rattle.std.specs.Prelude.{◌≡◌}
use Rattle.rules.proofs.Common.{ℕ, List, sym, ap, ◌∙◌, length, Float}
use native.Mathlib.Omega.{arith}
use Rattle.frame.specs.Effect.{Effect}
use Rattle.frame.specs.Reply.{Reply, passed, Done}
use Rattle.frame.specs.Frame.{call4}
use Rattle.frame.proofs.Answered.{done_lem}
use Rattle.frame.proofs.Done.{call4_done}
use Rattle.halves.proofs.Onward.{as_is}
use Rattle.halves.proofs.second.synthesise.Goals as goal

is_done : (share samples : List Float) (out : ℕ) → length share ≡ 3778 → length samples ≡ 960 → out ≡ 480
    → Done ≡ (call4 share samples out).answer
is_done share samples out whole a b = sym (ap (λ (f : Effect Reply). f.answer) (call4_done share whole samples out a b))

pub unwrap-requires : goal.unwrap-requires
unwrap-requires c =
    let a = c.args in
    done_lem c.call4.result (ap passed (c.call4.ensures.answers
    ∙ sym (is_done a.share.now c.inverse.new.out (length a.out.now) (omega arith) (omega arith) (omega arith))))

pub returns : goal.returns
returns c =
    let a = c.args in
    as_is (ap (λ (x : List Float). call4 a.share.now x (length a.out.now)) (sym c.inverse.ensures))
    (record {
      answers =
          is_done a.share.now c.inverse.new.out (length a.out.now) (omega arith) (omega arith) (omega arith);
      keeps = c.call4.ensures.keeps;
      writes = c.call4.ensures.writes;
    })

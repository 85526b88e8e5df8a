-- `frame::heard::listen` meets its contract. Assumes nothing.
use Rattle.rules.proofs.Common.{◌≡◌, length, sym, ◌∙◌}
use native.Mathlib.Omega.{arith}
use Rattle.rules.specs.Place.{get}
use Rattle.rules.proofs.Refusals.{left as fitted, fitting}
use Rattle.frame.proofs.Sizes.{x_size, ex_size}
use Rattle.frame.proofs.Answered.{same_ok}
use Rattle.frame.proofs.Sounded.{is_silent_lem, is_heard_lem}
use Rattle.frame.proofs.heard.listen.Goals as goal

pub hear-voice-requires-clause-as_kept : goal.hear-voice-requires-clause-as_kept
unfolding get
hear-voice-requires-clause-as_kept c =
    let size : length c.args.out.now ≡ 961 = omega arith in
    fitted c.copy.ensures (size ∙ sym (x_size c.args.share.now (omega arith)))

pub returns-in-None : goal.returns-in-None
unfolding get
returns-in-None c = λ m good.
    let a = c.args in
    let share = a.share.now in
    let size : length a.out.now ≡ 961 = omega arith in
    let x = fitted c.copy.ensures (size ∙ sym (x_size share (omega arith))) in
    let sound = fitting c.listen.ensures (ex_size share (omega arith)) in
    is_silent_lem share a.index a.spectrum.now a.logs.now a.model.now m a.out.now
    (same_ok c.in-None.ensures sound) x

pub returns-in-Some : goal.returns-in-Some
unfolding get
returns-in-Some c = λ m good.
    let a = c.args in
    let share = a.share.now in
    let sound = fitting c.listen.ensures (ex_size share (omega arith)) in
    is_heard_lem share a.index a.spectrum.now a.logs.now a.model.now m a.out.now
    (same_ok c.in-Some.ensures sound) (c.hear-voice.ensures m good)

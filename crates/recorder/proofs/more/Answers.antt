use Rattle.std.proofs.lemmas.Result.{err_from_is_err_and}
use Rattle.rules.proofs.Common.{ap, ◌∙◌}
use Rattle.recorder.specs.Numbers.{recorder_in}
use Rattle.recorder.proofs.Answers.{more_refused, more_done, small_in, room_for, belonging_few}
use Rattle.recorder.proofs.more.Goals as goal

pub returns-in_err-tried : goal.returns-in_err-tried
returns-in_err-tried c =
    let a = c.args in
    let lent = c.in-Some-eq2.ensures.cases in
    let p = err_from_is_err_and c.from_residual.result c.from_residual.ensures.1 in
    rw (p.1, p.2) (more_refused a.taken a.cleaned.now a.records.now a.numbers.now a.part.now lent.long
    c.in-Some-eq2.is-1 (c.recorder_in-recorder.ensures ∙ ap recorder_in lent.same) c.tried.ensures c.in_err-tried.was)

pub recorded-requires : goal.recorded-requires
recorded-requires c =
    let a = c.args in
    let r = c.recorder_in-recorder in
    room_for r.result a.taken a.cleaned.now a.records.now c.tried.ensures c.in_ok-tried.was
    (small_in _ r.ensures) _ (belonging_few r.result a.taken a.cleaned.now c.belonging-audio.ensures)

pub returns : goal.returns
returns c =
    let a = c.args in
    let lent = c.in-Some-eq2.ensures.cases in
    more_done a.taken a.cleaned.now a.records.now a.numbers.now a.part.now lent.long c.in-Some-eq2.is-1
    (c.recorder_in-recorder.ensures ∙ ap recorder_in lent.same) c.tried.ensures c.in_ok-tried.was
    c.belonging-audio.ensures c.start_of-start.ensures.0 c.recorded.ensures
    (c.copy_from_slice.ensures.after ∙ c.numbers_of.ensures) c.copy_from_slice-2.ensures.after

-- `halves::second::second_half` meets its contract. Assumes nothing.
use Rattle.std.specs.Prelude.{◌∷◌}
use Rattle.rules.proofs.Common.{[], ◌∙◌, length}
use native.Mathlib.Omega.{arith}
use Rattle.frame.specs.Written.{first_in}
use Rattle.frame.proofs.Answered.{passed_on, refused_lem, told_lem}
use Rattle.halves.specs.Halves.{synthesised}
use Rattle.halves.proofs.Onward.{second_half_done, as_is, call3_writes, refused_first, handed_on, synthesised_by}
use Rattle.halves.proofs.second.second_half.Goals as goal

pub returns-in_err-told : goal.returns-in_err-told
returns-in_err-told c =
    let a = c.args in
    let e = c.in_err-told in
    rw (passed_on _ _ c.from_residual.ensures.1)
    (as_is
    (second_half_done a.share.now (omega arith) a.hearing a.logs.now a.model.now
    (length a.out.now)
    (omega arith) (omega arith) (omega arith) c.look_back.ensures)
    (refused_first e.ensures (call3_writes _ _ _ _ _ _)
    (λ f. synthesised f.answer f.kept a.hearing.way (first_in f.written) (length a.out.now))
    (a.out.now ∷ []) (refused_lem e.field-0.0)))

pub returns : goal.returns
returns c =
    let a = c.args in
    let whole = c.if-share-ne-PART.false in
    let few = c.if-logs-ne22.false in
    let room = c.if-out-ne480.false in
    let inside = c.if-hearing-gt7.false in
    as_is
    (second_half_done a.share.now (omega (arith, whole)) a.hearing a.logs.now a.model.now
    (length a.out.now)
    (omega (arith, few)) (omega (arith, room)) (omega (arith, inside)) c.look_back.ensures
    ∙ handed_on c.in_ok-told.ensures (call3_writes _ _ _ _ _ _) (told_lem c.in_ok-told.told)
    (λ reply share spectrum. synthesised reply share a.hearing.way spectrum (length a.out.now)))
    (synthesised_by _ _ _ _ c.synthesise.ensures)

-- `halves::first::first_half` meets its contract. Assumes nothing.
use Rattle.std.specs.Prelude.{◌∷◌}
use Rattle.rules.proofs.Common.{[], ◌∙◌, length}
use native.Mathlib.Omega.{arith}
use Rattle.frame.specs.Written.{first_in}
use Rattle.frame.proofs.Answered.{passed_on, refused_lem, told_lem}
use Rattle.halves.specs.Halves.{analysed}
use Rattle.halves.proofs.Onward.{first_half_done, as_is, call1_writes, refused_first, handed_on}
use Rattle.halves.proofs.first.first_half.Goals as goal

pub returns-in_err-call1 : goal.returns-in_err-call1
returns-in_err-call1 c =
    let a = c.args in
    let e = c.in_err-call1 in
    rw (passed_on _ _ c.from_residual.ensures.1)
    (as_is
    (first_half_done a.share.now (omega arith) a.way a.samples.now (length a.sums.now) (omega arith)
    (omega arith))
    (refused_first e.ensures (call1_writes _ _ _)
    (λ f. analysed f.kept a.way (first_in f.written) (length a.sums.now)) (a.sums.now ∷ [])
    (refused_lem e.field-0.0)))

pub returns : goal.returns
returns c =
    let a = c.args in
    as_is
    (first_half_done a.share.now (omega arith) a.way a.samples.now (length a.sums.now) (omega arith)
    (omega arith)
    ∙ handed_on c.in_ok-call1.ensures (call1_writes _ _ _) (told_lem c.in_ok-call1.field-0)
    (λ _ share window. analysed share a.way window (length a.sums.now)))
    c.analyse.ensures

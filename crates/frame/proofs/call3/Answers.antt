-- `frame::call3` meets its contract. Assumes nothing.
use Rattle.std.specs.Prelude.{◌∷◌}
use Rattle.rules.proofs.Common.{[], refl, length}
use native.Mathlib.Omega.{arith}
use Rattle.model.specs.Model.{read_of}
use Rattle.frame.proofs.Answered.{tested_good, passed_on, refused_lem}
use Rattle.frame.specs.Frame.{counted, done3}
use Rattle.frame.proofs.Done.{call3_done, modelled_no, modelled_yes}
use Rattle.frame.proofs.call3.Goals as goal

pub returns-in_err-check : goal.returns-in_err-check
returns-in_err-check c =
    let a = c.args in
    rw (
      passed_on c.from_residual.result c.in_err-check.field-0.0 c.from_residual.ensures.1,
      call3_done a.share.now (omega arith) a.hearing a.spectrum.now a.logs.now a.model.now (length a.out.now)
          (omega arith) (omega arith) (omega arith) (omega arith),
    )
    (modelled_no (counted a.hearing) a.share.now (a.out.now ∷ [])
    (done3 a.share.now a.hearing.index a.spectrum.now a.logs.now a.model.now) (read_of a.model.now)
    c.in_err-check.ensures (refused_lem c.in_err-check.field-0.0))

pub returns : goal.returns
returns c =
    let a = c.args in
    let share = (rw c.unwrap.ensures at c.as_mut_array.ensures.cases).same in
    let out = (rw c.unwrap-2.ensures at c.as_mut_array-2.ensures.cases).same in
    let spectrum = (rw c.unwrap-3.ensures at c.as_array.ensures.cases).same in
    let logs = (rw c.unwrap-4.ensures at c.as_array-2.ensures.cases).same in
    rw
    (call3_done a.share.now (omega arith) a.hearing a.spectrum.now a.logs.now a.model.now
    (length a.out.now) (omega arith) (omega arith) (omega arith) (omega arith))
    (modelled_yes (counted a.hearing) a.share.now (a.out.now ∷ [])
    (done3 a.share.now a.hearing.index a.spectrum.now a.logs.now a.model.now)
    (read_of a.model.now) c.in_ok-check.ensures refl (rw (share, out, spectrum, logs) at c.listen.ensures))

pub listen-requires-clause-reads : goal.listen-requires-clause-reads
listen-requires-clause-reads c = tested_good (counted c.args.hearing) (read_of c.args.model.now) c.in_ok-check.ensures

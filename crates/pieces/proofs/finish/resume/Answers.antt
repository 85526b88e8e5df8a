-- `pieces::finish::resume` meets its contract: the tests turn it away, or what its parts leave makes it what the
-- definition says. Assumes nothing.
use Rattle.std.specs.Prelude.{◌≡◌}
use Rattle.rules.proofs.Common.{ℕ, true, List, refl, Float}
use native.Mathlib.Omega.{arith}
use Rattle.frame.specs.declared.Hearing.{Hearing}
use Rattle.frame.specs.Reply.{Reply, passed}
use Rattle.frame.proofs.Answered.{passed_on, refused_lem}
use Rattle.pieces.specs.Private.{resume_reply}
use Rattle.pieces.proofs.Accepted.{Resume, resume_accepted, within_samples, frame_fits}
use Rattle.pieces.proofs.Serve.{finished_length, resume_refused, resume_goes}
use Rattle.pieces.proofs.finish.resume.Goals as goal

-- past the tests
got : (share : List Float) (hearing : Hearing) (noted progress : ℕ) (samples logs : List Float) (model : List ℕ)
    (out sums : ℕ) {r : Reply} → r ≡ resume_reply share hearing noted progress samples logs model out sums
    → passed r ≡ true → Resume share hearing noted progress samples logs model out sums
got share hearing noted progress samples logs model out sums e z =
    resume_accepted share hearing noted progress samples logs model out sums (rw e at z)

-- ---- the two ways to end

pub returns-in_err-resume_tests : goal.returns-in_err-resume_tests
returns-in_err-resume_tests c =
    let a = c.args in
    let e = c.in_err-resume_tests in
    rw (passed_on _ _ c.from_residual.ensures.1)
    (resume_refused a.share.now a.hearing a.piece a.progress a.samples.now a.logs.now a.model.now a.out.now a.sums.now _
    e.ensures (refused_lem e.field-0.0))

pub returns : goal.returns
returns c =
    let a = c.args in
    let told = c.leave-told.ensures in
    resume_goes a.share.now a.hearing a.piece a.progress a.samples.now a.logs.now a.model.now a.out.now a.sums.now _
    c.in_ok-resume_tests.ensures refl
    (told.told, (told.share_after, told.out_after)) c.go_on.ensures

-- ---- what the parts ask for

pub overflow_add-start : goal.overflow_add-start
overflow_add-start c =
    let k = got _ _ _ _ _ _ _ _ _ c.in_ok-resume_tests.ensures refl in
    omega (arith, k.within, k.few)

pub overflow_sub-start : goal.overflow_sub-start
overflow_sub-start c =
    let k = got _ _ _ _ _ _ _ _ _ c.in_ok-resume_tests.ensures refl in
    omega (arith, k.begun)

pub leave-told-requires : goal.leave-told-requires
leave-told-requires c =
    let k = got _ _ _ _ _ _ _ _ _ c.in_ok-resume_tests.ensures refl in
    record {
      sizes = (k.size, k.inside, k.taken, frame_fits _ _ _ _ _ _ _ _ _ k);
      model_passes = k.right;
    }

pub go_on-requires : goal.go_on-requires
go_on-requires c =
    let a = c.args in
    let k = got _ _ _ _ _ _ _ _ _ c.in_ok-resume_tests.ensures refl in (
      finished_length a.share.now k.size a.hearing a.logs.now a.model.now c.leave-told.ensures.share_after,
      within_samples _ _ _ _ _ _ _ _ _ k,
      k.fine,
      k.places,
    )

-- `tuppence_resume` meets its contract: it is the call of the desk, and its answer is handed back as numbers.
-- Assumes nothing.
use Rattle.std.specs.Prelude.{◌∷◌}
use Rattle.rules.proofs.Common.{[], refl, length}
use native.Mathlib.Omega.{arith}
use Rattle.rules.specs.Place.{get, put}
use Rattle.desk.specs.Gate.{BENCHES}
use Rattle.desk.specs.Desk.{resume}
use Rattle.desk.proofs.Replies.{no_resume_out}
use Rattle.export.proofs.Given.{no_more}
use Rattle.export.proofs.Handed.{hands_back, three, handed_three}
use Rattle.export.proofs.of_desk.tuppence_resume.Goals as goal

pub slice_bounds-resume-end : goal.slice_bounds-resume-end
slice_bounds-resume-end c =
    let a = c.args in
    omega (arith, c.places-end.ensures, no_more (length a.answer.now) (length a.out.now))

pub tell-requires : goal.tell-requires
unfolding get
tell-requires c =
    let a = c.args in
    three _ _ _ _ _ (λ n. resume a.samples.now a.logs.now a.model.now n (length a.sums.now))
    a.out.now a.answer.now _ (a.sums.now ∷ []) _ c.resume-given.result
    c.places-end.result (no_resume_out BENCHES _ _ _ a.samples.now a.logs.now a.model.now
    (length a.sums.now)) (λ _. refl) (λ _ _. refl)
    c.record_in.ensures c.places-end.ensures c.resume-given.ensures

pub hand_back-requires : goal.hand_back-requires
hand_back-requires c = hands_back _ _ _ _ _ _ _ _ c.resume-given.result c.record_in.ensures c.resume-given.ensures

pub returns : goal.returns
unfolding get put
returns c =
    let a = c.args in
    handed_three _ _ _ _ _ (λ n. resume a.samples.now a.logs.now a.model.now n (length a.sums.now))
    a.out.now a.answer.now _ (a.sums.now ∷ []) _ c.resume-given.result
    c.places-end.result (no_resume_out BENCHES _ _ _ a.samples.now a.logs.now a.model.now
    (length a.sums.now)) (λ _. refl) (λ _ _. refl)
    c.record_in.ensures c.places-end.ensures c.resume-given.ensures
    (omega (arith, c.resume-given.auto)) c.tell.ensures c.hand_back.ensures

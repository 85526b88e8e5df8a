-- `tuppence_call3` meets its contract: it is the call of the desk, and its answer is handed back as numbers.
-- Assumes nothing.
use Rattle.rules.proofs.Common.{[], refl, length}
use native.Mathlib.Omega.{arith}
use Rattle.rules.specs.Place.{get, put}
use Rattle.desk.specs.Gate.{BENCHES}
use Rattle.desk.specs.Desk.{call3}
use Rattle.desk.proofs.Replies.{no_out}
use Rattle.export.proofs.Given.{no_more}
use Rattle.export.proofs.Handed.{hands_back, three, handed_three}
use Rattle.export.proofs.of_desk.tuppence_call3.Goals as goal

pub slice_bounds-call3-end : goal.slice_bounds-call3-end
slice_bounds-call3-end c =
    let a = c.args in
    omega (arith, c.places-end.ensures, no_more (length a.answer.now) (length a.out.now))

pub tell-requires : goal.tell-requires
unfolding get
tell-requires c =
    let a = c.args in
    three _ _ _ _ _ (call3 a.spectrum.now a.logs.now a.model.now) a.out.now a.answer.now _ []
    [] c.call3-given.result c.places-end.result
    (no_out BENCHES _ _ _ a.spectrum.now a.logs.now a.model.now) (λ _. refl) (λ _ _. refl)
    c.record_in.ensures c.places-end.ensures c.call3-given.ensures

pub hand_back-requires : goal.hand_back-requires
hand_back-requires c = hands_back _ _ _ _ _ _ _ _ c.call3-given.result c.record_in.ensures c.call3-given.ensures

pub returns : goal.returns
unfolding get put
returns c =
    let a = c.args in
    handed_three _ _ _ _ _ (call3 a.spectrum.now a.logs.now a.model.now) a.out.now
    a.answer.now _ [] [] c.call3-given.result c.places-end.result
    (no_out BENCHES _ _ _ a.spectrum.now a.logs.now a.model.now) (λ _. refl) (λ _ _. refl)
    c.record_in.ensures c.places-end.ensures c.call3-given.ensures
    (omega (arith, c.call3-given.auto)) c.tell.ensures c.hand_back.ensures

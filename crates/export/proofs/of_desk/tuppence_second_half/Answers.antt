-- `tuppence_second_half` meets its contract: it is the call of the desk, and its answer is handed back as numbers.
-- Assumes nothing.
use Rattle.rules.proofs.Common.{[], refl, length}
use native.Mathlib.Omega.{arith}
use Rattle.rules.specs.Place.{get, put}
use Rattle.desk.specs.Gate.{BENCHES}
use Rattle.desk.specs.Desk.{second_half}
use Rattle.desk.proofs.Replies.{no_half_out}
use Rattle.export.proofs.Given.{no_more}
use Rattle.export.proofs.Handed.{hands_back, three, handed_three}
use Rattle.export.proofs.of_desk.tuppence_second_half.Goals as goal

pub slice_bounds-second_half-end : goal.slice_bounds-second_half-end
slice_bounds-second_half-end c =
    let a = c.args in
    omega (arith, c.places-end.ensures, no_more (length a.answer.now) (length a.out.now))

pub tell-requires : goal.tell-requires
unfolding get
tell-requires c =
    let a = c.args in
    three _ _ _ _ _ (second_half a.logs.now a.model.now) a.out.now a.answer.now _ []
    [] c.second_half-given.result c.places-end.result
    (no_half_out BENCHES _ _ _ a.logs.now a.model.now) (λ _. refl) (λ _ _. refl) c.record_in.ensures
    c.places-end.ensures c.second_half-given.ensures

pub hand_back-requires : goal.hand_back-requires
hand_back-requires c =
    hands_back _ _ _ _ _ _ _ _ c.second_half-given.result c.record_in.ensures c.second_half-given.ensures

pub returns : goal.returns
unfolding get put
returns c =
    let a = c.args in
    handed_three _ _ _ _ _ (second_half a.logs.now a.model.now) a.out.now a.answer.now _ []
    [] c.second_half-given.result c.places-end.result
    (no_half_out BENCHES _ _ _ a.logs.now a.model.now) (λ _. refl) (λ _ _. refl) c.record_in.ensures
    c.places-end.ensures c.second_half-given.ensures
    (omega (arith, c.second_half-given.auto)) c.tell.ensures c.hand_back.ensures
